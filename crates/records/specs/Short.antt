-- THE SHORT FORM is document 01's, in its own words: 64 bytes, length 0 to 62 in the second byte.
use Rattle.std.specs.Prelude.{ℕ, ◌+◌, ◌<◌, ◌≡◌, Bool, ◌||◌, not, ◌&&◌, List, [], ◌∷◌, length, get_or, take, drop, ltb, eqb}
use Rattle.fill.specs.Fill.{any_set}
use Rattle.records.specs.declared.Form.TheVariants.{Short}
use Rattle.records.specs.Form.{size_of}
use Rattle.records.specs.Record.{length_at, bytes_at, record_bad, records_of}

-- a partial record, kind over 2, length over 62, a length with kind 1 or 2, nonzero fill
abbrev pub short_bad : List ℕ → Bool
short_bad r =
    not (eqb (length r) 64)
    || (ltb 2 (get_or r 0 0)
    || (ltb 62 (get_or r 1 0)
    || ((not (eqb (get_or r 0 0) 0) && not (eqb (get_or r 1 0) 0))
    || any_set (drop (2 + get_or r 1 0) r))))

pub record ShortForm : Type 0 where
  pub size : size_of Short ≡ 64
  pub length-there : (r : List ℕ) → length_at Short r ≡ get_or r 1 0
  pub bytes : (r : List ℕ) → bytes_at Short r ≡ take (get_or r 1 0) (drop 2 r)
  pub bad : (r : List ℕ) → record_bad Short r ≡ short_bad r
  pub no-records : records_of Short [] ≡ []
  pub records : (l : List ℕ) → 0 < length l → records_of Short l ≡ take 64 l ∷ records_of Short (drop 64 l)
