-- Document 02, Eight: "a thin call takes it by exclusive reference". What each call leaves of the record, with its answer: as the call on lent bytes does.
use Rattle.std.specs.Prelude.{ℕ, List}
use Rattle.session_rules.specs.declared.Rest.{Rest}
use Rattle.session.specs.declared.RestTaken.{RestTaken}
use Rattle.session.specs.declared.RestReported.{RestReported}
use Rattle.session.specs.declared.RestClosed.{RestClosed}
use Rattle.ledger_record.specs.Recorded.{take_in, take_left, lost_in, lost_left, close_in, close_left}
use Rattle.ledger_lent.specs.declared.Record.{Record}
use Rattle.ledger_lent.specs.declared.RecordTaken.{RecordTaken}
use Rattle.ledger_lent.specs.declared.RecordReported.{RecordReported}
use Rattle.ledger_lent.specs.declared.RecordClosed.{RecordClosed}

unfoldable pub taken_of : List ℕ → Rest → ℕ → List ℕ → RecordTaken
taken_of r rest room t = record { bytes = take_left r rest room t; taken = take_in r rest room t }

unfoldable pub reported_of : List ℕ → Rest → RecordReported
reported_of r rest = record { bytes = lost_left r rest; reported = lost_in r rest }

unfoldable pub closed_of : List ℕ → Rest → RecordClosed
closed_of r rest = record { bytes = close_left r rest; closed = close_in r rest }

-- the same of a record that is lent: what lies in it, and the answer
abbrev pub taken_with : Record → RestTaken → RecordTaken
taken_with l x = record { bytes = l.bytes; taken = x }

abbrev pub reported_with : Record → RestReported → RecordReported
reported_with l x = record { bytes = l.bytes; reported = x }

abbrev pub closed_with : Record → RestClosed → RecordClosed
closed_with l x = record { bytes = l.bytes; closed = x }
