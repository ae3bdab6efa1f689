-- How some small traces stand, as computed equalities.
use Prim.Native.Nat.{ℕ}
use mathlib.Core.Path.{◌≡◌, refl}
use mathlib.Core.List.{List, [], ◌∷◌}
use Rattle.fill.specs.Fill.{any_set}
use Rattle.records.specs.Record.{record_bad}
use Rattle.records.specs.declared.Form.TheVariants.{Short, Long}
use Rattle.records.proofs.Samples.{row, long_row}
use Rattle.trace.specs.Standing.{state_of}
use Rattle.trace.specs.declared.State.TheVariants.{Good, Bad}

abbrev transfer : List ℕ
transfer = row 0 1 7 61

abbrev close : List ℕ
close = row 2 0 0 61

no-records : state_of Short [] ≡ Good
no-records = refl

closed-last : state_of Short (transfer ∷ close ∷ []) ≡ Good
unfolding record_bad any_set
closed-last = refl

after-close : state_of Short (close ∷ transfer ∷ []) ≡ Bad 2
unfolding record_bad any_set
after-close = refl

partial : state_of Short (transfer ∷ row 0 1 7 60 ∷ []) ≡ Bad 2
unfolding record_bad any_set
partial = refl

lost-with-length : state_of Short (row 1 1 7 61 ∷ []) ≡ Bad 1
unfolding record_bad any_set
lost-with-length = refl

filled : state_of Short (row 0 0 7 61 ∷ []) ≡ Bad 1
unfolding record_bad any_set
filled = refl

-- ---- long records
long-closed-last : state_of Long (long_row 0 0 1 0 7 3071 ∷ long_row 2 0 0 0 0 3071 ∷ []) ≡ Good
unfolding record_bad any_set
long-closed-last = refl

long-second : state_of Long (long_row 0 0 1 0 7 3071 ∷ long_row 1 1 0 0 0 3071 ∷ []) ≡ Bad 2
unfolding record_bad any_set
long-second = refl

-- a short record is a partial long one
long-short : state_of Long (transfer ∷ []) ≡ Bad 1
unfolding record_bad any_set
long-short = refl
