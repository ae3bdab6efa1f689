-- What the functions have, in the order of their code.
use Rattle.rules.specs.declared.Refused.{Refused}
use Rattle.std.specs.Prelude.{None, Option, Some, Err}
use Rattle.rules.specs.Verdicts.{Verdict, accept}
use Prim.Native.Nat.{ℕ, ◌%◌, ◌≤◌, ◌<◌}
use mathlib.Core.Path.{◌≡◌, refl, ◌∙◌}
use mathlib.Core.List.{List, [], ◌∷◌}
use mathlib.Core.Bool.{true, false, not}
use lib.Dec.{eqb}
use lib.ListN.{get_or}
use borrow.Author.Tests.{lt-ltb, le-ltb, eq-eqb, ne_eqb}
use Rattle.rules.specs.IfElse.{if_else}
use Rattle.rules.specs.Place.{first_place}
use Rattle.entities.specs.declared.Revision.{Revision}
use Rattle.entities.specs.declared.Table.{Table}
use Rattle.probe.specs.Fields.{probe_of, room_verdict, written}
use Rattle.probe.specs.declared.Probe.{Probe}
use Rattle.probe.specs.declared.Fields.{Fields}
use Rattle.probe_check.specs.Answer.{check_of}
use Rattle.host_told.specs.Told.{verdict_told, unknown_told}
use Rattle.host_told.specs.declared.Told.{Told}
use Rattle.host_probe.specs.Words.{words_of, layout_in, fields_in, differs, wide_at}
use Rattle.host_probe.specs.Probe.{read_as, read_told, verdict_left, read_left_as, read_left, wide_told, write_as, write_told, write_left_as, write_left, check_under}

-- ---- reading
module _ (f g : Option Revision) (h : f ≡ g) (s w : List ℕ) where
  pub read_none : f ≡ None → (r : Told) → r ≡ unknown_told → r ≡ read_told g s
  read_none e r k = rw (← h, e) k

  pub left-none : f ≡ None → w ≡ read_left g s w
  left-none e = rw (← h, e)

  module _ (v : Revision) (e : f ≡ Some v) where
    pub read_is : (r : Told) → r ≡ read_as v s → r ≡ read_told g s
    read_is r k = rw (← h, e) k

    pub left_is : (left : List ℕ) → left ≡ read_left_as v s w → left ≡ read_left g s w
    left_is left l = rw (← h, e) l

module _ (v : Revision) (s : List ℕ) (f : Fields) (e : f ≡ probe_of v s) where
  pub read-fields : (r : Told) → r ≡ verdict_told f.verdict → r ≡ read_as v s
  read-fields r k = rw (← e) k

  pub left-fields : (w left : List ℕ) → left ≡ verdict_left f.verdict (words_of f.probe) w → left ≡ read_left_as v s w
  left-fields w left l = rw (← e) l

pub left-accepted : (v : Verdict) (new w l : List ℕ) → v ≡ accept → l ≡ new → l ≡ verdict_left v new w
left-accepted v new w l e f = rw e f

pub left-refused : (v : Verdict) (new w : List ℕ) (r : Refused) → v ≡ Err r → w ≡ verdict_left v new w
left-refused v new w r e = rw e

-- ---- writing
module _ (f g : Option Revision) (h : f ≡ g) (w room : List ℕ) where
  pub write-none : f ≡ None → (r : Told) → r ≡ unknown_told → r ≡ write_told g w room
  write-none e r k = rw (← h, e) k

  pub room-none : f ≡ None → room ≡ write_left g w room
  room-none e = rw (← h, e)

  module _ (v : Revision) (e : f ≡ Some v) where
    pub write-is : (r : Told) → r ≡ write_as v w room → r ≡ write_told g w room
    write-is r k = rw (← h, e) k

    pub room-is : (left : List ℕ) → left ≡ write_left_as v w room → left ≡ write_left g w room
    room-is left l = rw (← h, e) l

module _ (v : Revision) (w room : List ℕ) (p : Probe) (e : p ≡ fields_in w) (l : List ℕ) (f : l ≡ words_of p) (i : ℕ) (g : i ≡ first_place (differs w l) 29) where
  same_place : i ≡ wide_at w
  same_place = rw (f, e) at g

  pub too_wide : i < 29 → (r : Told) → r ≡ wide_told i → (r ≡ write_as v w room) × (room ≡ write_left_as v w room)
  unfolding write_as write_left_as if_else
  too_wide h r k = rw (← same_place, lt-ltb i 29 h) (k, refl)

  pub all_fit : 29 ≤ i → (u : Verdict) (left : List ℕ) → u ≡ room_verdict v room → left ≡ written v p room → (r : Told) → r ≡ verdict_told u
      → (r ≡ write_as v w room) × (left ≡ write_left_as v w room)
  unfolding write_as write_left_as if_else
  all_fit h u left a b r k = rw (← same_place, le-ltb i 29 h, ← a, ← e) (k, b)

-- ---- the words
pub differ : (a b : ℕ) → (a ≡ b → ⊥) → not (eqb a b) ≡ true
differ a b h = rw (ne_eqb a b h)

pub agree : (a b : ℕ) → a ≡ b → not (eqb a b) ≡ false
agree a b h = rw (eq-eqb a b h)

-- the words and the fields, whose layout is a list of its own
pub words_are :
    (p : Probe) (a0 a1 a2 a3 a4 a5 a6 a7 : ℕ) →
    a0 ≡ get_or p.layout 0 0 →
    a1 ≡ get_or p.layout 1 0 →
    a2 ≡ get_or p.layout 2 0 →
    a3 ≡ get_or p.layout 3 0 →
    a4 ≡ get_or p.layout 4 0 →
    a5 ≡ get_or p.layout 5 0 →
    a6 ≡ get_or p.layout 6 0 →
    a7 ≡ get_or p.layout 7 0 →
    (p.hint ∷ p.format ∷ p.frame ∷ p.interval ∷ p.key_rate ∷ p.p_rate ∷ p.quality ∷ p.window ∷ p.delay ∷ p.frame_size ∷ p.payload_size ∷ p.clock ∷ p.framing ∷ p.preferred ∷ p.minimum ∷ p.maximum ∷ p.usage ∷ p.luma_depth ∷ p.settings ∷ p.reference_frames ∷ p.rate_modes ∷ a0 ∷ a1 ∷ a2 ∷ a3 ∷ a4 ∷ a5 ∷ a6 ∷ a7 ∷ []) ≡ words_of p
words_are p a0 a1 a2 a3 a4 a5 a6 a7 e0 e1 e2 e3 e4 e5 e6 e7 = rw (e0, e1, e2, e3, e4, e5, e6, e7)

pub fields-are : (w l : List ℕ) → l ≡ layout_in w
    → record { hint = get_or w 0 0 % 65536; format = get_or w 1 0 % 256; frame = get_or w 2 0 % 256; interval = get_or w 3 0; key_rate = get_or w 4 0 % 65536; p_rate = get_or w 5 0 % 65536; quality = get_or w 6 0 % 65536; window = get_or w 7 0 % 65536; delay = get_or w 8 0 % 65536; frame_size = get_or w 9 0; payload_size = get_or w 10 0; clock = get_or w 11 0; framing = get_or w 12 0 % 256; preferred = get_or w 13 0 % 256; minimum = get_or w 14 0 % 256; maximum = get_or w 15 0 % 256; usage = get_or w 16 0 % 256; luma_depth = get_or w 17 0 % 256; settings = get_or w 18 0 % 256; reference_frames = get_or w 19 0 % 256; rate_modes = get_or w 20 0 % 65536; layout = l } ≡ fields_in w
fields-are w l e = rw e

-- ---- checking
pub refused-check : (v : Verdict) (table : Table) (t a : List ℕ) (w : Refused) → v ≡ Err w → (r : Told) → r ≡ verdict_told v → r ≡ check_under v table t a
refused-check v table t a w e r g = g ∙ (rw e)

pub accepted-check : (v : Verdict) (table : Table) (t a : List ℕ) → v ≡ accept → (u : Verdict) → u ≡ check_of table t a → (r : Told) → r ≡ verdict_told u → r ≡ check_under v table t a
accepted-check v table t a e u f r g = rw (e, ← f) g
