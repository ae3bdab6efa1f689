-- What is printed of a whole answer: its line; or the refusal's line, and its number in plain words.
use Rattle.rules.specs.Verdicts.{Verdict}
use Rattle.std.specs.Prelude.{Bool, true, false, List, ℕ}
use Rattle.camera_settings.specs.declared.Setting.{Setting}
use Rattle.packets.specs.declared.Reading.{Reading}
use Rattle.packets.specs.declared.Reading.TheVariants.{Asks, Refused}
use Rattle.nearest.specs.Word.{integer_of}
use Rattle.nearest.specs.declared.Moved.{Moved}
use Rattle.block_text.specs.Answers.{refused_text, told_by}
use Rattle.setup_lines.specs.Lines.{packet_line, asks_line, number_line}

-- the packet that was built
abbrev pub built_text : Verdict → List ℕ → List ℕ
built_text v p = told_by v (packet_line p)

-- what was read back
abbrev pub read_text : Reading → List ℕ
read_text (Asks u c q) = asks_line u c q
read_text (Refused k o) = refused_text k o

-- the number that a wanted one was moved to
abbrev pub moved_by : Verdict → Setting → ℕ → List ℕ
moved_by v s w = told_by v (number_line (integer_of s w))

abbrev pub moved_text : Setting → Moved → List ℕ
moved_text s m = moved_by m.verdict s m.word

-- whether an answer is one, and no refusal: what the status tells
abbrev pub is_asked : Reading → Bool
is_asked (Asks u c q) = true
is_asked (Refused k o) = false
