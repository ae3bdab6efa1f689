use Rattle.configuration_text.specs.Texts.{setting_line}
use Rattle.text.specs.Text.{line_most}
use Rattle.alternate_settings.specs.Inner.{settings_of}
use Rattle.configuration_text.proofs.Lines.{Printed}
use Rattle.configuration_text.proofs.settings.Given as goal

abbrev pub invariant-loop-i : goal.invariant-loop-i
invariant-loop-i l = Printed setting_line (settings_of l.s l.interface l.endpoint) line_most 32 l.initial.buf l.start l.i l.at l.buf
