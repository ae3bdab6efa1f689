-- What the tests of a call decide, and what it writes.
use Rattle.std.specs.Prelude.{None, Some}
use Rattle.session_rules.specs.Options.{Stamp}
use Prim.Native.Nat.{ℕ, zero, suc, ◌+◌, ◌-◌, ◌/◌, ◌%◌, ◌≤◌, ◌<◌, min}
use mathlib.Core.Path.{◌≡◌, refl, sym, ap, ◌∙◌}
use mathlib.Core.Bool.{Bool, true, false}
use mathlib.Core.List.{List, [], ◌∷◌, ◌++◌}
use native.Mathlib.Omega.{arith}
use lib.ListN.{length, take, drop, length-append, length-take, length-drop}
use lib.Seq.{paste, take_at, drop_at, take-length, drop-drop, length-take-le, take_all}
use lib.Dec.{ltb, leb, eqb}
use borrow.Author.Tests.{lt-ltb, le-ltb, eq-eqb, ne_eqb, ltb-false, leb-true, leb-false}
use Rattle.rules.specs.Numbered.{first_row}
use Rattle.rules.proofs.Rows.{or-first, or-second, row-none}
use Rattle.sizes.specs.Sizes.{payload_most}
use Rattle.sizes.proofs.Limits.{frame-sound}
use Rattle.sender.specs.declared.Sender.{Sender}
use Rattle.sender.specs.declared.Sending.TheVariants.{Refused, Done, Wrote}
use Rattle.sender.specs.declared.Sent.{Sent}
use Rattle.sender.specs.Header.{bit, size_of, written}
use Rattle.sender.specs.Transfers.{data_most}
use Rattle.sender.specs.Send.{transfer_at, part_size, transfer_size, payload_broken, room_short, send_rows, wrote_of, sent_by, send_of, room_by, room_of}
use Rattle.sender.specs.Inner.{Ready}

-- ---- 81
pub payload-sound : (payload : ℕ) (s : Stamp) → payload_broken payload s ≡ false → (size_of s < payload) × (payload ≤ payload_most)
unfolding payload_broken
payload-sound payload s e = (leb-false payload (size_of s) (or-first _ _ e), ltb-false payload_most payload (or-second (leb payload (size_of s)) _ e))

-- ---- 82
module _ (at n payload : ℕ) (s : Stamp) (room : ℕ) where
  pub room_after : n ≤ at → false ≡ room_short at n payload s room
  unfolding room_short
  room_after l = rw (le-ltb at n l) refl

  pub room_next : (h m : ℕ) → h ≡ size_of s → m ≡ min (payload - h) (n - at) → at < n → ltb room (h + m) ≡ room_short at n payload s room
  unfolding room_short
  room_next h m e f l = rw (lt-ltb at n l, f, e) refl

  pub room-sound : at < n → room_short at n payload s room ≡ false → transfer_size payload s n at ≤ room
  unfolding room_short
  room-sound l e = ltb-false room (transfer_size payload s n at) (rw (lt-ltb at n l) at e)

-- ---- the header
pub short-is : (fid eof : Bool) (a b : ℕ) → a ≡ bit fid 1 → b ≡ bit eof 2 → 2 ∷ (128 + a + b) ∷ [] ≡ written fid eof None
short-is fid eof a b e f = rw (e, f) refl

pub long-is : (fid eof : Bool) (x a b c d g h : ℕ) → a ≡ bit fid 1 → b ≡ bit eof 2 → c ≡ x % 256 → d ≡ x / 256 % 256 → g ≡ x / 65536 % 256 → h ≡ x / 16777216 % 256
    → 6 ∷ (132 + a + b) ∷ c ∷ d ∷ g ∷ h ∷ [] ≡ written fid eof (Some x)
long-is fid eof x a b c d g h p q r s t u = rw (p, q, r, s, t, u) refl

pub header-length : (fid eof : Bool) (s : Stamp) → length (written fid eof s) ≡ size_of s
header-length fid eof None = refl
header-length fid eof (Some x) = refl

module _ (fid eof : Bool) (s z : Stamp) (q : s ≡ z) (h room : List ℕ) (e : h ≡ written fid eof z) where
  pub header-room : size_of s ≤ length room → length h ≤ length room
  header-room l = let k : length h ≡ size_of s = ap length e ∙ header-length fid eof z ∙ ap size_of (sym q) in omega arith

  pub header-written : (now : List ℕ) → now ≡ take (length h) h ++ drop (length h) room → now ≡ written fid eof s ++ drop (size_of s) room
  header-written now w = w ∙ rw (take-length, e, header-length fid eof z, q) refl

-- ---- the transfer
pub transfer-length : (payload : ℕ) (fid : Bool) (s : Stamp) (l : List ℕ) (at : ℕ) → length (transfer_at payload fid s l at) ≡ transfer_size payload s (length l) at
transfer-length payload fid s l at = simp (length-append, header-length, length-take, length-drop) refl

-- EOF is where the frame ends in it
ends : (payload : ℕ) (s : Stamp) (n at to : ℕ) → to ≡ at + part_size payload s n at → at < n → eqb to n ≡ leb n (at + data_most payload s)
ends payload s n at to e l = go (data_most payload s) refl
  where
    go : (p : ℕ) → data_most payload s ≡ p → eqb to n ≡ leb n (at + p)
    go p f = by (leb n (at + p)) refl
      where
        by : (b : Bool) → leb n (at + p) ≡ b → eqb to n ≡ b
        by true g = eq-eqb to n (omega (arith, leb-true n (at + p) g))
        by false g = ne_eqb to n (λ (z : to ≡ n). omega (arith, leb-false n (at + p) g))

take-most : (p n : ℕ) (m : List ℕ) → n ≡ min p (length m) → take n m ≡ take p m
take-most p n m e = go (leb p (length m)) refl
  where
    go : (b : Bool) → leb p (length m) ≡ b → take n m ≡ take p m
    go true g = let z : n ≡ p = omega (arith, leb-true p (length m) g) in ap (λ (k : ℕ). take k m) z
    go false g = let z : length m < p = leb-false p (length m) g in take_all n m (omega arith) ∙ sym (take_all p m (omega arith))

module _ (x : Sender) (l room : List ℕ) (payload : ℕ) (s : Stamp) (ok : Ready x (length l) payload s (length room)) (h n : ℕ) (e : h ≡ size_of s) (f : n ≡ min (payload - h) (length l - x.at)) where
  pub wrote-is : record { sender = record { fid = x.fid; at = x.at + n }; sending = Wrote (h + n) } ≡ wrote_of x (length l) payload s
  wrote-is = rw (f, e) refl

  pub put_is : (mid now : List ℕ) → mid ≡ written x.fid (eqb (x.at + n) (length l)) s ++ drop (size_of s) room
      → now ≡ paste mid h (take (x.at + n - x.at) (drop x.at l)) (length (take (x.at + n - x.at) (drop x.at l)))
      → now ≡ transfer_at payload x.fid s l x.at ++ drop (transfer_size payload s (length l) x.at) room
  put_is mid now a b =
      let w : List ℕ = written x.fid (leb (length l) (x.at + data_most payload s)) s in
      let k : length w ≡ size_of s = header-length x.fid _ s in
      let g : n ≡ part_size payload s (length l) x.at = rw e at f in
      let q : eqb (x.at + n) (length l) ≡ leb (length l) (x.at + data_most payload s) = ends payload s (length l) x.at (x.at + n) (ap (λ (m : ℕ). x.at + m) g) ok.more in
      let d : length (drop x.at l) ≡ length l - x.at = length-drop x.at l in
      let m : length (take n (drop x.at l)) ≡ n = length-take-le n (drop x.at l) (omega arith) in
      let c : mid ≡ w ++ drop (size_of s) room = a ∙ ap (λ (b : Bool). written x.fid b s ++ drop (size_of s) room) q in
      let u : take (size_of s) (w ++ drop (size_of s) room) ≡ w = take_at w (drop (size_of s) room) (size_of s) k in
      let j : take (length (take n (drop x.at l))) (take n (drop x.at l)) ≡ take (data_most payload s) (drop x.at l) = take-length (take n (drop x.at l)) ∙ take-most (data_most payload s) n (drop x.at l) (omega arith) in
      let o : drop (h + length (take n (drop x.at l))) mid ≡ drop (transfer_size payload s (length l) x.at) room =
      (λ i. drop (e i + m i) (c i))
      ∙ sym (drop-drop n (size_of s) (w ++ drop (size_of s) room))
      ∙ ap (drop n) (drop_at w (drop (size_of s) room) (size_of s) k)
      ∙ drop-drop n (size_of s) room
      ∙ ap (λ (i : ℕ). drop (size_of s + i) room) g in
      let y : take h mid ≡ w = (λ i. take (e i) (c i)) ∙ u in
      let v : x.at + n - x.at ≡ n = omega arith in
      (rw v at b) ∙ (λ i. (y i ++ j i) ++ o i)

-- ---- the call
module _ (x : Sender) (l : List ℕ) (payload : ℕ) (s : Stamp) (room : List ℕ) (k : ℕ) (e : k ≡ first_row (send_rows x.at (length l) payload s (length room))) where
  pub send-refused : (k ≡ 0 → ⊥) → (record { sender = x; sending = Refused k } ≡ send_of x l payload s (length room)) × (room ≡ room_of x l payload s room)
  unfolding send_of room_of
  send-refused h = rw (← e) (go k h)
    where
      go : (j : ℕ) → (j ≡ 0 → ⊥) → (record { sender = x; sending = Refused j } ≡ sent_by j (ltb x.at (length l)) x (length l) payload s)
          × (room ≡ room_by (sent_by j (ltb x.at (length l)) x (length l) payload s).sending (transfer_at payload x.fid s l x.at) room)
      go zero n = absurd (n refl)
      go (suc j) n = (refl, refl)

  pub send-done : k ≡ 0 → length l ≤ x.at → (record { sender = x; sending = Done } ≡ send_of x l payload s (length room)) × (room ≡ room_of x l payload s room)
  unfolding send_of room_of
  send-done z h = let f : first_row (send_rows x.at (length l) payload s (length room)) ≡ 0 = sym e ∙ z in rw (f, le-ltb x.at (length l) h) (refl, refl)

  pub send-ready : k ≡ 0 → x.at < length l → Ready x (length l) payload s (length room)
  send-ready z h =
      let n = row-none (send_rows x.at (length l) payload s (length room)) (omega arith, (omega arith, (omega arith, tt))) (sym e ∙ z) in
      let p = payload-sound payload s n.1.0 in
      record {
        few = (frame-sound (length l) n.0).high;
        above = p.0;
        most = p.1;
        more = h;
        enough = room-sound x.at (length l) payload s (length room) h n.1.1.0;
      }

  pub send-wrote : k ≡ 0 → x.at < length l → (r : Sent) (now : List ℕ) → r ≡ wrote_of x (length l) payload s
      → now ≡ transfer_at payload x.fid s l x.at ++ drop (transfer_size payload s (length l) x.at) room
      → (r ≡ send_of x l payload s (length room)) × (now ≡ room_of x l payload s room)
  unfolding send_of room_of
  send-wrote z h r now p q = let f : first_row (send_rows x.at (length l) payload s (length room)) ≡ 0 = sym e ∙ z in rw (f, lt-ltb x.at (length l) h) (p, q)
