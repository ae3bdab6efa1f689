-- What the tests of `check` say of its rules, in the order of the code.
use Rattle.rules.specs.Verdicts.{Verdict, accept, refuse}
use Prim.Native.Nat.{ℕ, ◌+◌, ◌≤◌, ◌<◌}
use mathlib.Core.Path.{◌≡◌}
use mathlib.Core.List.{List}
use mathlib.Core.Bool.{Bool, true, false, not}
use lib.ListN.{length, get_or}
use lib.Dec.{ltb, eqb}
use borrow.Author.Tests.{eq-eqb, ne_eqb, lt-leb, le-leb}
use native.Mathlib.Omega.{arith}
use Rattle.le.specs.Le.{byte, le32_at}
use Rattle.rules.specs.IfElse.{if_else}
use Rattle.rules.specs.Numbered.{first_row}
use Rattle.entities.specs.declared.Table.{Table}
use Rattle.sizes.specs.Sizes.{frame_size_broken, payload_size_broken}
use Rattle.streaming_descriptors.specs.Descriptors.{kind_at, format_of, frame_length_at}
use Rattle.streaming_rules.specs.Rules.{offers_at}
use Rattle.streaming_descriptors.specs.declared.Frame.{Frame}
use Rattle.streaming_descriptors.proofs.Subtypes.{frame-long}
use Rattle.streaming.specs.Inner.{streaming_of}
use Rattle.streaming.specs.declared.Streaming.{Streaming}
use Rattle.probe.specs.Fields.{probe_size, fields_of}
use Rattle.probe_check.specs.Answer.{frame_in, format_missing, has_number, frame_place, frame_rows, check_rows, given, check_of}

pub number-some : (number count n : ℕ) → (number ≡ 0 → ⊥) → n ≡ number → ltb count n ≡ format_missing number count
unfolding format_missing
number-some number count n h e = rw (ne_eqb number 0 h, e)

pub same_format : (s : List ℕ) (format number : ℕ) (f : Frame) → f.format ≡ format → eqb (byte s f.offset 3) number ≡ has_number s format number f
unfolding has_number
same_format s format number f h = rw (eq-eqb f.format format h)

-- ---- 44 to 46
module _ (s : List ℕ) (o : ℕ) (b : List ℕ) (x : ℕ) (i : x ≡ le32_at b 4) (d : Bool) (e : d ≡ offers_at s o x) (r : Verdict) where
  pub frame-44 : not d ≡ true → r ≡ refuse 44 0 → r ≡ given (first_row (frame_rows s o (fields_of b)))
  unfolding frame_rows fields_of given
  frame-44 h q = rw (← i, ← e, h) q

  module _ (y : not d ≡ false) (n : ℕ) (j : n ≡ le32_at b 18) (u : Bool) (f : u ≡ frame_size_broken n) where
    pub frame-45 : u ≡ true → r ≡ refuse 45 0 → r ≡ given (first_row (frame_rows s o (fields_of b)))
    unfolding frame_rows fields_of given
    frame-45 h q = rw (← i, ← e, y, ← j, ← f, h) q

    module _ (z : u ≡ false) (m : ℕ) (k : m ≡ le32_at b 22) (v : Bool) (g : v ≡ payload_size_broken m) where
      pub frame-46 : v ≡ true → r ≡ refuse 46 0 → r ≡ given (first_row (frame_rows s o (fields_of b)))
      unfolding frame_rows fields_of given
      frame-46 h q = rw (← i, ← e, y, ← j, ← f, z, ← k, ← g, h) q

      pub frame-well : v ≡ false → r ≡ accept → r ≡ given (first_row (frame_rows s o (fields_of b)))
      unfolding frame_rows fields_of given
      frame-well h q = rw (← i, ← e, y, ← j, ← f, z, ← k, ← g, h) q

-- ---- 41, the block's own refusal, and 42 to 46
module _ (t : Table) (s b : List ℕ) (r : Verdict) where
  pub check-41 : (length b ≡ probe_size t.revision → ⊥) → r ≡ refuse 41 0 → r ≡ check_of t s b
  unfolding check_of if_else
  check-41 h q = rw (ne_eqb (length b) (probe_size t.revision) h) q

  module _ (l : length b ≡ probe_size t.revision) (x : Streaming) (e : x ≡ streaming_of t s) where
    pub check-own : (k o : ℕ) → x.verdict ≡ refuse k o → r ≡ refuse k o → r ≡ check_of t s b
    unfolding check_of if_else
    check-own k o h q = rw (eq-eqb (length b) (probe_size t.revision) l, ← e, h) q

    module _ (v : x.verdict ≡ accept) (m : Bool) (f : m ≡ format_missing (get_or b 2 0) x.format_count) where
      pub check-42 : m ≡ true → r ≡ refuse 42 0 → r ≡ check_of t s b
      unfolding check_of if_else check_rows fields_of given
      check-42 h q = rw (eq-eqb (length b) (probe_size t.revision) l, ← e, v, ← f, h) q

      module _ (g : m ≡ false) (i : ℕ) (p : i ≡ frame_place s x.frames x.frame_count (get_or b 2 0) (get_or b 3 0)) where
        pub check-43 : x.frame_count ≤ i → r ≡ refuse 43 0 → r ≡ check_of t s b
        unfolding check_of if_else check_rows fields_of given
        check-43 h q = rw (eq-eqb (length b) (probe_size t.revision) l, ← e, v, ← f, g, ← p, le-leb x.frame_count i h) q

        pub check-on : i < x.frame_count → r ≡ given (first_row (frame_rows s (frame_in x.frames i).offset (fields_of b))) → r ≡ check_of t s b
        unfolding check_of if_else check_rows fields_of given
        check-on h q = rw (eq-eqb (length b) (probe_size t.revision) l, ← e, v, ← f, g, ← p, lt-leb x.frame_count i h) q

pub number-room : (s : List ℕ) (o : ℕ) → o + frame_length_at (format_of (kind_at s o)) s o ≤ length s → o + 3 < length s
number-room s o h = omega (arith, frame-long (format_of (kind_at s o)) s o (length s) h)
