-- Some traces and what is made of them, as computed equalities.
use Rattle.std.proofs.Common.{◌≡◌, ℕ, List, [], ◌∷◌, ◌++◌, refl}
use Rattle.fill.specs.Fill.{any_set}
use Rattle.records.specs.Record.{record_bad, records_of}
use Rattle.records.proofs.Samples.{row, long_row}
use Rattle.convert.specs.Convert.{converted, stopped_at}

-- a transfer of one byte, 7; a lost report; close
transfer : List ℕ
transfer = row 0 1 7 61

lost : List ℕ
lost = row 1 0 0 61

closes : List ℕ
closes = row 2 0 0 61

nothing : converted [] ≡ []
unfolding converted records_of
nothing = refl

nothing_stops : stopped_at [] ≡ 0
unfolding stopped_at records_of
nothing_stops = refl

-- good records: a long one for each
good : converted (transfer ++ (lost ++ closes)) ≡ long_row 0 0 1 0 7 3071 ++ (long_row 1 0 0 0 0 3071 ++ long_row 2 0 0 0 0 3071)
unfolding converted records_of record_bad any_set transfer lost closes
good = refl

good-stops : stopped_at (transfer ++ (lost ++ closes)) ≡ 0
unfolding stopped_at records_of record_bad any_set transfer lost closes
good-stops = refl

-- a partial record
partial : converted (lost ++ (0 ∷ 1 ∷ 7 ∷ [])) ≡ long_row 1 0 0 0 0 3071 ++ (255 ∷ [])
unfolding converted records_of record_bad any_set lost
partial = refl

partial-stops : stopped_at (lost ++ (0 ∷ 1 ∷ 7 ∷ [])) ≡ 2
unfolding stopped_at records_of record_bad any_set lost
partial-stops = refl

-- anything after close, and no byte after that
after-close : converted (closes ++ (transfer ++ lost)) ≡ long_row 2 0 0 0 0 3071 ++ (255 ∷ [])
unfolding converted records_of record_bad any_set transfer lost closes
after-close = refl

after-close-stops : stopped_at (closes ++ (transfer ++ lost)) ≡ 2
unfolding stopped_at records_of record_bad any_set transfer lost closes
after-close-stops = refl
