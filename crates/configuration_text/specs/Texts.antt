-- What is printed of a configuration `s` that was read, and of a picked setting.
use Rattle.std.specs.Prelude.{List, [], ◌∷◌, ◌++◌, ℕ, ◌*◌, take}
use Rattle.text.specs.Text.{bytes, line, texts, line_most}
use Rattle.block_lines.specs.Lines.{accepted_line}
use Rattle.block_text.specs.Answers.{told_by}
use Rattle.interfaces.specs.Limits.{settings_most}
use Rattle.interfaces.specs.declared.Block.{Block}
use Rattle.interfaces.specs.declared.Stream.{Stream}
use Rattle.alternate_settings.specs.Inner.{settings_of}
use Rattle.alternate_settings.specs.declared.Setting.{Setting}
use Rattle.configuration.specs.declared.Configuration.{Configuration}
use Rattle.picking.specs.declared.Picked.{Picked}

-- number, bytes
abbrev pub setting_line : Setting → List ℕ
setting_line x = line (bytes "setting") (x.number ∷ x.bytes ∷ [])

-- interface, offset, length
abbrev pub control_line : Block → List ℕ
control_line b = line (bytes "control") (b.interface ∷ b.offset ∷ b.length ∷ [])

-- interface, offset, length, endpoint; then its settings
abbrev pub stream_line : Stream → List ℕ
stream_line x = line (bytes "streaming") (x.interface ∷ x.offset ∷ x.length ∷ x.endpoint ∷ [])

abbrev pub stream_text : List ℕ → Stream → List ℕ
stream_text s x = stream_line x ++ texts setting_line (take settings_most (settings_of s x.interface x.endpoint))

-- the control interface, and the used places of the streams
abbrev pub listed_text : List ℕ → Configuration → List ℕ
listed_text s c = accepted_line ++ (control_line c.control ++ texts (stream_text s) (take c.count c.streams))

abbrev pub configuration_text : List ℕ → Configuration → List ℕ
configuration_text s c = told_by c.verdict (listed_text s c)

abbrev pub picked_text : Picked → List ℕ
picked_text p = told_by p.verdict (setting_line p.setting)

-- a stream has a line and those of 32 settings; a configuration has two lines and eight streams
abbrev pub stream_most : ℕ
stream_most = line_most * 33

abbrev pub room : ℕ
room = line_most * 266
