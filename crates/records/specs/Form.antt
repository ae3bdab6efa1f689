-- Document 01, "The ledger program", and document 02, Thirteen: the two forms of a record.
use Rattle.std.specs.Prelude.{ℕ}
use Rattle.records.specs.declared.Form.{Form}
use Rattle.records.specs.declared.Form.TheVariants.{Short, Long}

-- how many bytes a record has
abbrev pub size_of : Form → ℕ
size_of Short = 64
size_of Long = 3076

-- how many stand before its data: kind and length; kind, a zero and a two-byte length
abbrev pub head_of : Form → ℕ
head_of Short = 2
head_of Long = 4

-- how many bytes of data it holds at most
abbrev pub most_of : Form → ℕ
most_of Short = 62
most_of Long = 3072
