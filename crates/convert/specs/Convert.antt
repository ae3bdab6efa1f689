-- Document 02, "Thirteen": the converter from short records to long ones, on any bytes.
use Rattle.std.specs.Prelude.{ℕ, suc, Bool, false, cond, ◌||◌, List, [], ◌∷◌, ◌++◌, ◌==◌}
use Rattle.records.specs.declared.Form.TheVariants.{Short}
use Rattle.records.specs.Record.{kind_at, bytes_at, record_bad, records_of}
use Rattle.long_records.specs.Long.{long_of}

-- the long record for a short one: the same kind, the same bytes
abbrev pub long_for : List ℕ → List ℕ
long_for r = long_of (kind_at r) (bytes_at Short r)

-- one for each good record; at the first bad one, or at anything after close, one byte FF, and it stops. `closed`: the record before was close
abbrev pub convert_from : Bool → List (List ℕ) → List ℕ
convert_from closed [] = []
convert_from closed (r ∷ rs) = cond (closed || record_bad Short r) (255 ∷ []) (long_for r ++ convert_from (kind_at r == 2) rs)

-- WHAT IT WRITES of a short trace
unfoldable pub converted : List ℕ → List ℕ
converted l = convert_from false (records_of Short l)

-- THE RECORD AT WHICH IT STOPS, by its number from 1; 0 where it does not stop
abbrev pub stop_from : Bool → ℕ → List (List ℕ) → ℕ
stop_from closed n [] = 0
stop_from closed n (r ∷ rs) = cond (closed || record_bad Short r) n (stop_from (kind_at r == 2) (suc n) rs)

unfoldable pub stopped_at : List ℕ → ℕ
stopped_at l = stop_from false 1 (records_of Short l)
