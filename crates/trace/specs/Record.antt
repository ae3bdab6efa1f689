-- Document 01, "The ledger program", and document 02, Thirteen: the call of one record of a trace. `r` is the record's bytes.
use Rattle.std.specs.Prelude.{ℕ, zero, suc, List}
use Rattle.session_rules.specs.Call.{Ask, Call, heard_of}
use Rattle.records.specs.declared.Form.{Form}
use Rattle.records.specs.Record.{kind_at, bytes_at}

-- the call that a good record stands for, and how it stands in the list
abbrev pub ask_by : Form → ℕ → List ℕ → Ask
ask_by f zero r = Ask.transfer (bytes_at f r)
ask_by f (suc zero) r = Ask.lost
ask_by f (suc (suc k)) r = Ask.close

abbrev pub record_ask : Form → List ℕ → Ask
record_ask f r = ask_by f (kind_at r) r

abbrev pub record_call : Form → List ℕ → Call
record_call f r = heard_of (record_ask f r)
