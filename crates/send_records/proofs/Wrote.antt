-- What a sender wrote stands at the front of the room.
use Rattle.session_rules.specs.Options.{Stamp}
use Rattle.std.proofs.Common.{◌≡◌, ℕ, zero, suc, ◌+◌, ◌-◌, ◌*◌, ◌%◌, ◌^◌, ◌≤◌, Bool, true, false, ltb, List, [], ◌∷◌, ◌++◌, length, take, drop, sym, refl, ap, ◌∙◌, arith}
use Rattle.rules.specs.Numbered.{first_row}
use Rattle.sender.specs.declared.Sender.{Sender}
use Rattle.sender.specs.declared.Sending.{Sending}
use Rattle.sender.specs.declared.Sending.TheVariants.{Refused, Done, Wrote}
use Rattle.sender.specs.declared.Sent.{Sent}
use Rattle.send_records.specs.Records.{is_wrote, size_in, record_in, out_if, out_by, stamp_at}
use Rattle.text.specs.Put.{Put}
use Rattle.long_records.specs.Long.{long_of, data_most}
use Rattle.sender.specs.Send.{transfer_at, transfer_size, sent_by, send_rows, send_of, room_by, room_of}
use Rattle.sender.proofs.Writing.{transfer-length}

-- one more than what was written; nothing where nothing was
told : Sending → ℕ
told (Refused k) = 0
told Done = 0
told (Wrote n) = suc n

size-by : (k : ℕ) (more : Bool) (x : Sender) (n payload : ℕ) (s : Stamp) (m : ℕ) → (sent_by k more x n payload s).sending ≡ Wrote m → m ≡ transfer_size payload s n x.at
unfolding told
size-by (suc k) more x n payload s m e = absurd (let h : 0 ≡ suc m = ap told e in omega arith)
size-by zero true x n payload s m e = let h : suc (transfer_size payload s n x.at) ≡ suc m = ap told e in omega arith
size-by zero false x n payload s m e = absurd (let h : 0 ≡ suc m = ap told e in omega arith)

pub size-wrote : (x : Sender) (l : List ℕ) (payload : ℕ) (s : Stamp) (room m : ℕ) → (send_of x l payload s room).sending ≡ Wrote m → m ≡ transfer_size payload s (length l) x.at
unfolding send_of
size-wrote x l payload s room m e = size-by (first_row (send_rows x.at (length l) payload s room)) (ltb x.at (length l)) x (length l) payload s m e

front : (t r : List ℕ) → take (length t) (t ++ r) ≡ t
front [] r = refl
front (a ∷ t) r = ap (λ (l : List ℕ). a ∷ l) (front t r)

long : (t r : List ℕ) → length t ≤ length (t ++ r)
long [] r = omega arith
long (a ∷ t) r = let h = long t r in omega (arith, h)

wrote-back : (k : ℕ) (t r room' : List ℕ) → length t ≡ k → room' ≡ t ++ r → (k ≤ length room') × (take k room' ≡ t)
wrote-back k t r room' p w = rw w (rw (sym p) (long t r, front t r))

-- what was written fits, and is the transfer
in-by : (z : Sending) (t room room' : List ℕ) → ((n : ℕ) → z ≡ Wrote n → length t ≡ n) → room' ≡ room_by z t room → (out : List ℕ) → (size_in z ≤ length room') × (out_by z (take (size_in z) room') out ≡ out_by z t out)
in-by (Refused k) t room room' f w out = (omega arith, refl)
in-by Done t room room' f w out = (omega arith, refl)
in-by (Wrote n) t room room' f w out =
    let h = wrote-back n t (drop n room) room' (f n refl) w in
    (h.0, ap (λ (l : List ℕ). record_in l out) h.1)

in-room : (x : Sender) (l : List ℕ) (payload : ℕ) (s : Stamp) (room room' : List ℕ) (y : Sent) → y ≡ send_of x l payload s (length room) → room' ≡ room_of x l payload s room → (out : List ℕ)
    → (size_in y.sending ≤ length room') × (out_by y.sending (take (size_in y.sending) room') out ≡ out_by y.sending (transfer_at payload x.fid s l x.at) out)
unfolding room_of
in-room x l payload s room room' y e w out =
    in-by y.sending (transfer_at payload x.fid s l x.at) room room'
    (λ n h. transfer-length payload x.fid s l x.at ∙ sym (size-wrote x l payload s (length room) n (ap (λ (z : Sent). z.sending) (sym e) ∙ h)))
    (w ∙ ap (λ (z : Sent). room_by z.sending (transfer_at payload x.fid s l x.at) room) (sym e)) out

pub fits : (x : Sender) (l : List ℕ) (payload : ℕ) (s : Stamp) (room room' : List ℕ) (y : Sent) (n : ℕ) → y ≡ send_of x l payload s (length room) → room' ≡ room_of x l payload s room → n ≡ size_in y.sending → n ≤ length room'
fits x l payload s room room' y n e w h = rw h (in-room x l payload s room room' y e w []).0

pub recorded : (x : Sender) (l : List ℕ) (payload : ℕ) (s : Stamp) (room room' : List ℕ) (y : Sent) (b : Bool) (n : ℕ) (out out' : List ℕ) → y ≡ send_of x l payload s (length room) → room' ≡ room_of x l payload s room
    → b ≡ is_wrote y.sending → n ≡ size_in y.sending → out' ≡ out_if b (take n room') out → out' ≡ out_by y.sending (transfer_at payload x.fid s l x.at) out
recorded x l payload s room room' y b n out out' e w p q h = h ∙ rw p (rw q (in-room x l payload s room room' y e w out).1)

pub sized : (x : Sender) (l : List ℕ) (payload : ℕ) (s : Stamp) (k : ℕ) (y : Sent) → k ≡ data_most → y ≡ send_of x l payload s k → y ≡ send_of x l payload s data_most
sized x l payload s k y e h = rw e at h

pub put_record : (old t new : List ℕ) (r : ℕ) → Put old 0 (long_of 0 t) r new → new ≡ record_in t old
unfolding record_in
put_record old t new r p = p.bytes

pub front-record : (b : Bool) (n : ℕ) (room out out' : List ℕ) → b ≡ true → out' ≡ record_in (take (n - 0) (drop 0 room)) out → out' ≡ out_if b (take n room) out
front-record b n room out out' e h = let z : n - 0 ≡ n = omega arith in rw e (rw z at h)

mods : (a t : ℕ) → (a % 2 ^ 32 + t) % 2 ^ 32 ≡ (a + t) % 2 ^ 32
mods a t = omega arith

one_more : (i t : ℕ) → i * t + t ≡ suc i * t
one_more i t = omega arith

-- the stamp of frame i is i times the ticks, modulo 2^32
pub stamps : (ticks i : ℕ) → stamp_at ticks i ≡ (i * ticks) % 2 ^ 32
stamps ticks zero = omega arith
stamps ticks (suc i) = ap (λ (z : ℕ). (z + ticks) % 2 ^ 32) (stamps ticks i) ∙ mods (i * ticks) ticks ∙ ap (λ (z : ℕ). z % 2 ^ 32) (one_more i ticks)
