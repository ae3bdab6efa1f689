-- How what the readers of a configuration answer is told to C.
use Rattle.alternate_settings.specs.declared.Setting.{Setting}
use Rattle.rules.specs.Verdicts.{Verdict}
use Rattle.std.specs.Prelude.{ℕ, zero, suc, List, [], ◌∷◌, None, Option, Some, Err, Ok}
use Rattle.interfaces.specs.declared.Block.{Block}
use Rattle.interfaces.specs.declared.Stream.{Stream}
use Rattle.picking.specs.declared.Picked.{Picked}
use Rattle.host_told.specs.Told.{number_of, offset_of, kth}
use Rattle.host_configuration.specs.declared.SettingTold.{SettingTold}
use Rattle.host_configuration.specs.declared.PickedTold.{PickedTold}

-- ---- where a block lies: the interface's number, its endpoint, the block's place and its length
abbrev pub no_block : List ℕ
no_block = 0 ∷ 0 ∷ 0 ∷ 0 ∷ []

abbrev pub control_words : Block → List ℕ
control_words b = b.interface ∷ 0 ∷ b.offset ∷ b.length ∷ []

abbrev pub stream_words : Stream → List ℕ
stream_words e = e.interface ∷ e.endpoint ∷ e.offset ∷ e.length ∷ []

abbrev pub there_of : Stream → ℕ
there_of e = 1

-- the control block is at 0, and behind it are the streams' blocks
abbrev pub part_there : List Stream → ℕ → ℕ
part_there l zero = 1
part_there l (suc k) = kth 0 there_of l k

abbrev pub part_at : Block → List Stream → ℕ → List ℕ
part_at b l zero = control_words b
part_at b l (suc k) = kth no_block stream_words l k

-- none in a configuration that is refused
abbrev pub block_there : Verdict → List Stream → ℕ → ℕ
block_there (Ok _) l k = part_there l k
block_there (Err r) l k = 0

abbrev pub block_at : Verdict → Block → List Stream → ℕ → List ℕ
block_at (Ok _) b l k = part_at b l k
block_at (Err r) b l k = no_block

-- ---- a setting, and a pick
abbrev pub no_setting : SettingTold
no_setting = record { there = 0; number = 0; zero = 0; bytes = 0 }

abbrev pub setting_told : Option Setting → SettingTold
setting_told None = no_setting
setting_told (Some x) = record { there = 1; number = x.number; zero = 0; bytes = x.bytes }

-- a picked setting's number and bytes are 0 where it is refused
abbrev pub picked_told : Picked → PickedTold
picked_told x = record { number = number_of x.verdict; setting = x.setting.number; bytes = x.setting.bytes; offset = offset_of x.verdict }
