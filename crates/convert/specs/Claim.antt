-- THE CLAIM, of every input, good or bad, and of every opening: the long reading of what the converter writes stands as the short reading of the input,
-- takes the same calls, and has the same numbers. At 256 and 62 it is what the ledger program prints.
use Rattle.std.specs.Prelude.{◌≡◌, ℕ, List, map}
use Rattle.sizes.specs.declared.Opening.{Opening}
use Rattle.records.specs.declared.Form.TheVariants.{Short, Long}
use Rattle.records.specs.Record.{records_of}
use Rattle.trace.specs.declared.State.{State}
use Rattle.trace.specs.declared.State.TheVariants.{Good, Bad, Refused}
use Rattle.trace.specs.Record.{record_call}
use Rattle.trace.specs.Standing.{state_of, good_records, printed_by}
use Rattle.convert.specs.Convert.{converted}

-- the records of the input, and those of what is written
abbrev pub given : List ℕ → List (List ℕ)
given l = records_of Short l

abbrev pub made : List ℕ → List (List ℕ)
made l = records_of Long (converted l)

pub record SamePrint (o : Opening) (l : List ℕ) : Type 0 where
  pub state : state_of Long (made l) ≡ state_of Short (given l)
  pub calls : map (record_call Long) (good_records Long (made l)) ≡ map (record_call Short) (good_records Short (given l))
  pub numbers : printed_by Long o (state_of Long (made l)) (made l) ≡ printed_by Short o (state_of Short (given l)) (given l)

-- WHERE IT STOPS, beside what the ledger program says of the input: nowhere of a good trace, at N of a trace with `bad record N`.
-- The converter has no limit of records: past 4,294,967,295 of them it goes on, and both readings say `refused 52`
abbrev pub StopsFor : State → ℕ → Type 0
StopsFor Good n = n ≡ 0
StopsFor (Bad k) n = n ≡ k
StopsFor (Refused j k) n = Unit {0}
