-- What 73 reads of a control block `b`, and the control interface of a refused configuration.
use Rattle.std.specs.Prelude.{ℕ, ◌+◌, List, get_or}
use Rattle.interfaces.specs.declared.Block.{Block}

-- bInCollection of a control header, and its entries behind it
abbrev pub entry_count : List ℕ → ℕ
entry_count b = get_or b 11 0

abbrev pub entry_at : List ℕ → ℕ → ℕ
entry_at b j = get_or b (12 + j) 0

-- all zero
abbrev pub no_block : Block
no_block = record { interface = 0; offset = 0; length = 0 }
