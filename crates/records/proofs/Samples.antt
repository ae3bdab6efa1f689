-- Some records, good and bad, as computed equalities.
use Prim.Native.Nat.{ℕ}
use mathlib.Core.Path.{◌≡◌, refl}
use mathlib.Core.Bool.{true, false}
use mathlib.Core.List.{List, ◌∷◌}
use lib.ListN.{replicate}
use Rattle.fill.specs.Fill.{any_set}
use Rattle.records.specs.declared.Form.TheVariants.{Short, Long}
use Rattle.records.specs.Record.{record_bad}

-- ---- short: of this kind and length, with one byte and so many zeros after it
abbrev pub row : ℕ → ℕ → ℕ → ℕ → List ℕ
row kind n byte zeros = kind ∷ n ∷ byte ∷ replicate zeros 0

good : record_bad Short (row 0 1 7 61) ≡ false
unfolding record_bad any_set
good = refl

partial : record_bad Short (row 0 1 7 60) ≡ true
unfolding record_bad any_set
partial = refl

lost-with-length : record_bad Short (row 1 1 7 61) ≡ true
unfolding record_bad any_set
lost-with-length = refl

filled : record_bad Short (row 0 0 7 61) ≡ true
unfolding record_bad any_set
filled = refl

-- ---- long: of this kind, second byte and length, the low byte first, with one byte and so many zeros after it
abbrev pub long_row : ℕ → ℕ → ℕ → ℕ → ℕ → ℕ → List ℕ
long_row kind second low high byte zeros = kind ∷ second ∷ low ∷ high ∷ byte ∷ replicate zeros 0

long-good : record_bad Long (long_row 0 0 1 0 7 3071) ≡ false
unfolding record_bad any_set
long-good = refl

-- a length of 3,072
long-full : record_bad Long (long_row 0 0 0 12 7 3071) ≡ false
unfolding record_bad any_set
long-full = refl

long-partial : record_bad Long (long_row 0 0 1 0 7 3070) ≡ true
unfolding record_bad any_set
long-partial = refl

long-kind : record_bad Long (long_row 3 0 0 0 0 3071) ≡ true
unfolding record_bad any_set
long-kind = refl

long-second : record_bad Long (long_row 0 1 1 0 7 3071) ≡ true
unfolding record_bad any_set
long-second = refl

-- a length of 3,073
long-over : record_bad Long (long_row 0 0 1 12 7 3071) ≡ true
unfolding record_bad any_set
long-over = refl

long-lost-with-length : record_bad Long (long_row 1 0 1 0 7 3071) ≡ true
unfolding record_bad any_set
long-lost-with-length = refl

long_filled : record_bad Long (long_row 0 0 0 0 7 3071) ≡ true
unfolding record_bad any_set
long_filled = refl
