-- What calls enter depends on the track of a session and on how it was opened alone.
use Prim.Native.Nat.{ℕ, ◌-◌}
use mathlib.Core.Path.{◌≡◌, refl, sym, ap, ◌∙◌}
use mathlib.Core.List.{List, [], ◌∷◌, ◌++◌, append_assoc}
use lib.ListN.{length, drop}
use Rattle.session_rules.specs.declared.Header.{Header}
use Rattle.session_rules.specs.declared.Reading.{Reading}
use Rattle.session_rules.specs.declared.Reading.TheVariants.{Idle, Unreadable, Readable}
use Rattle.session_rules.specs.Transfer.{reading_of}
use Rattle.session_rules.specs.declared.Track.{Track}
use Rattle.session_rules.specs.declared.Turn.{Turn}
use Rattle.session_rules.specs.Turns.{turn_of, hands_of, spoilt_of, out_of, closed_of}
use Rattle.session_rules.specs.declared.Session.{Session}
use Rattle.session_rules.specs.Session.{read_of, took_by, took_of, hands_for, hands_out, handed_of}
use Rattle.session_rules.specs.Call.{Call}
use Rattle.session_rules.specs.Calls.{next_call, run}
use Rattle.books.specs.Alike.{OpenedAlike}
use Rattle.books.proofs.Made.{base, turn_items}
use Rattle.books.proofs.Taken.{Proper}
use Rattle.books.proofs.Owed.{out_items}
use Rattle.books.proofs.History.{items_by, data_by, call_items, data_next, items, data_run, next-opening}
use Rattle.books.proofs.Openings.{alike_moved, reads-alike, hands-alike, turn-alike}

pub record Alike (s r : Session) : Type 0 where
  pub opening : OpenedAlike s.rest.opening r.rest.opening
  pub track : s.rest.track ≡ r.rest.track

module _ (s r : Session) (a : Alike s r) where
  reads : (t : List ℕ) → reading_of s.rest.opening t ≡ reading_of r.rest.opening t
  reads = reads-alike s.rest.opening r.rest.opening a.opening

  turned : (h : Header) (n : ℕ) → turn_of s.rest.opening s.rest.track h n ≡ turn_of r.rest.opening r.rest.track h n
  turned h n = ap (λ (w : Track). turn_of s.rest.opening w h n) a.track ∙ turn-alike s.rest.opening r.rest.opening a.opening r.rest.track h n

  took-track : (t : List ℕ) (x : Reading) → (took_by x s t).session.rest.track ≡ (took_by x r t).session.rest.track
  unfolding read_of
  took-track t Idle = a.track
  took-track t (Unreadable k) = ap spoilt_of a.track
  took-track t (Readable h) = ap (λ (x : Turn). x.track) (turned h (length t - h.len))

  next-track : (c : Call) → (next_call s c).rest.track ≡ (next_call r c).rest.track
  unfolding took_of handed_of
  next-track (Call.transfer t) =
      took-track t (reading_of s.rest.opening t) ∙ ap (λ (x : Reading). (took_by x r t).session.rest.track) (reads t)
  next-track Call.lost = ap spoilt_of a.track
  next-track Call.handed = ap (λ (w : Track). (out_of w).track) a.track
  next-track Call.close = ap (λ (w : Track). (closed_of w).track) a.track

  pub next-alike : (c : Call) → Alike (next_call s c) (next_call r c)
  next-alike c =
      record {
        opening = alike_moved s.rest.opening r.rest.opening (next_call s c).rest.opening (next_call r c).rest.opening (next-opening s c) (next-opening r c) a.opening;
        track = next-track c;
      }

  module _ (D : List ℕ) where
    by-items : (t : List ℕ) (x : Reading) → items_by x s D t ≡ items_by x r D t
    by-items t Idle = refl
    by-items t (Unreadable k) = refl
    by-items t (Readable h) = λ i. turn_items (turned h (length t - h.len) i) D (base (a.track i).phase h.fid D ++ drop h.len t)

    by-data : (t : List ℕ) (x : Reading) → data_by x s D t ≡ data_by x r D t
    by-data t Idle = refl
    by-data t (Unreadable k) = refl
    by-data t (Readable h) = rw a.track refl

    call-items : (c : Call) → call_items s D c ≡ call_items r D c
    call-items (Call.transfer t) =
        by-items t (reading_of s.rest.opening t) ∙ ap (λ (x : Reading). items_by x r D t) (reads t)
    call-items Call.lost = refl
    call-items Call.handed = ap (λ (w : Track). out_items w.phase D) a.track
    call-items Call.close = rw a.track refl

    call-data : (c : Call) → data_next s D c ≡ data_next r D c
    call-data (Call.transfer t) = by-data t (reading_of s.rest.opening t) ∙ ap (λ (x : Reading). data_by x r D t) (reads t)
    call-data Call.lost = refl
    call-data Call.handed = refl
    call-data Call.close = refl

-- and so does whether a frame is handed out
out-alike : (s r : Session) → Alike s r → (t : List ℕ) → hands_out s t ≡ hands_out r t
unfolding hands_out
out-alike s r a t = ap (λ (x : Reading). hands_for x s) (reads s r a t) ∙ go (reading_of r.rest.opening t)
  where
    go : (x : Reading) → hands_for x s ≡ hands_for x r
    go Idle = refl
    go (Unreadable k) = refl
    go (Readable h) =
        ap (λ (w : Track). hands_of s.rest.opening w h) a.track ∙ hands-alike s.rest.opening r.rest.opening a.opening r.rest.track h

pub proper-alike : (cs : List Call) (s r : Session) → Alike s r → Proper s cs → Proper r cs
proper-alike [] s r a p = tt
proper-alike (Call.transfer t ∷ cs) s r a p =
    (sym (out-alike s r a t) ∙ p.0, proper-alike cs (next_call s (Call.transfer t)) (next_call r (Call.transfer t)) (next-alike s r a (Call.transfer t)) p.1)
proper-alike (Call.lost ∷ cs) s r a p = proper-alike cs (next_call s Call.lost) (next_call r Call.lost) (next-alike s r a Call.lost) p
proper-alike (Call.handed ∷ cs) s r a p =
    let h = p.0 in
    ((h.0, sym (out-alike s r a h.0) ∙ h.1), proper-alike cs (next_call s Call.handed) (next_call r Call.handed) (next-alike s r a Call.handed) p.1)
proper-alike (Call.close ∷ []) s r a p = tt
proper-alike (Call.close ∷ (c ∷ cs)) s r a p = absurd p

pub items_alike : (cs : List Call) (s r : Session) (D : List ℕ) → Alike s r → items s D cs ≡ items r D cs
items_alike [] s r D a = refl
items_alike (c ∷ cs) s r D a =
    rw (call-items s r a D c, call-data s r a D c) (ap (call_items r D c ++◌) (items_alike cs (next_call s c) (next_call r c) (data_next r D c) (next-alike s r a c)))

pub data-alike : (cs : List Call) (s r : Session) (D : List ℕ) → Alike s r → data_run s D cs ≡ data_run r D cs
data-alike [] s r D a = refl
data-alike (c ∷ cs) s r D a = rw (call-data s r a D c) (data-alike cs (next_call s c) (next_call r c) (data_next r D c) (next-alike s r a c))

pub run-alike : (cs : List Call) (s r : Session) → Alike s r → Alike (run s cs) (run r cs)
run-alike [] s r a = a
run-alike (c ∷ cs) s r a = run-alike cs (next_call s c) (next_call r c) (next-alike s r a c)

-- ---- calls after calls
pub run-append : (cs ds : List Call) (s : Session) → run s (cs ++ ds) ≡ run (run s cs) ds
run-append [] ds s = refl
run-append (c ∷ cs) ds s = run-append cs ds (next_call s c)

pub data-append : (cs ds : List Call) (s : Session) (D : List ℕ) → data_run s D (cs ++ ds) ≡ data_run (run s cs) (data_run s D cs) ds
data-append [] ds s D = refl
data-append (c ∷ cs) ds s D = data-append cs ds (next_call s c) (data_next s D c)

pub items-append : (cs ds : List Call) (s : Session) (D : List ℕ) → items s D (cs ++ ds) ≡ items s D cs ++ items (run s cs) (data_run s D cs) ds
items-append [] ds s D = refl
items-append (c ∷ cs) ds s D = ap (call_items s D c ++◌) (items-append cs ds (next_call s c) (data_next s D c)) ∙ sym (append_assoc (call_items s D c) _ _)
