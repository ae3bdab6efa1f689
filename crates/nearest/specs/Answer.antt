-- What `nearest` answers, of words as they stand in the data stage: 92 minimum above maximum, 93 step 0 or below, else the word of the nearest allowed number.
use Rattle.rules.specs.Verdicts.{accept, refuse}
use Rattle.std.specs.Prelude.{ℕ, ◌<◌, ◌^◌, pos, ◌≤ℤ◌, ◌<ℤ◌}
use Rattle.camera_settings.specs.declared.Setting.{Setting}
use Rattle.nearest.specs.Word.{integer_of}
use Rattle.nearest.specs.Nearest.{Range, Nearest}
use Rattle.nearest.specs.declared.Moved.{Moved}

-- refused at 0, with the word 0
abbrev pub refused_by : ℕ → Moved
refused_by k = record { verdict = refuse k 0; word = 0 }

abbrev pub moved_to : ℕ → Moved
moved_to w = record { verdict = accept; word = w }

-- three words as a range of the setting's integers
abbrev pub range_of : Setting → ℕ → ℕ → ℕ → Range
range_of s minimum maximum step = record { minimum = integer_of s minimum; maximum = integer_of s maximum; step = integer_of s step }

pub data NearestIs (s : Setting) (minimum maximum step wanted : ℕ) : Moved → Type 0 where
  by-92 : integer_of s maximum <ℤ integer_of s minimum → NearestIs s minimum maximum step wanted (refused_by 92)
  by-93 : integer_of s minimum ≤ℤ integer_of s maximum → integer_of s step ≤ℤ pos 0 → NearestIs s minimum maximum step wanted (refused_by 93)
  moved : integer_of s minimum ≤ℤ integer_of s maximum → pos 0 <ℤ integer_of s step
      → (w : ℕ) → w < 2 ^ 16 → Nearest (range_of s minimum maximum step) (integer_of s wanted) (integer_of s w)
      → NearestIs s minimum maximum step wanted (moved_to w)
