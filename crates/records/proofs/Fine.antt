-- What a good record is.
use Prim.Native.Nat.{ℕ, ◌≤◌}
use mathlib.Core.Path.{◌≡◌}
use mathlib.Core.Bool.{Bool, false, not}
use mathlib.Core.List.{List}
use lib.ListN.{length}
use lib.Dec.{ltb, eqb}
use borrow.Author.Tests.{eqb-true, ltb-false, not-false}
use Rattle.rules.proofs.Rows.{or-first, or-second}
use Rattle.records.specs.declared.Form.{Form}
use Rattle.records.specs.Form.{size_of, most_of}
use Rattle.records.specs.Record.{kind_at, length_at, second_set, record_bad}

pub record Fine (f : Form) (r : List ℕ) : Type 0 where
  pub size : length r ≡ size_of f
  pub kind : kind_at r ≤ 2
  pub second : second_set f r ≡ false
  pub short : length_at f r ≤ most_of f

pub fine : (f : Form) (r : List ℕ) → record_bad f r ≡ false → Fine f r
unfolding record_bad
fine f r e =
    let a : Bool = not (eqb (length r) (size_of f)) in
    let b : Bool = ltb 2 (kind_at r) in
    let c : Bool = second_set f r in
    let d : Bool = ltb (most_of f) (length_at f r) in
    record {
      size = eqb-true (length r) (size_of f) (not-false (eqb (length r) (size_of f)) (or-first a _ e));
      kind = ltb-false 2 (kind_at r) (or-first b _ (or-second a _ e));
      second = or-first c _ (or-second b _ (or-second a _ e));
      short = ltb-false (most_of f) (length_at f r) (or-first d _ (or-second c _ (or-second b _ (or-second a _ e))));
    }
