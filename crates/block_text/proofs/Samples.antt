-- Texts that antt computes.
use Rattle.rules.specs.Verdicts.{accept}
use mathlib.Core.Path.{◌≡◌, refl}
use mathlib.Core.List.{[], ◌∷◌}
use lib.ListN.{replicate}
use Rattle.entities.specs.declared.Revision.TheVariants.{R10}
use Rattle.text.specs.Decimal.{decimal}
use Rattle.text.specs.Text.{bytes}
use Rattle.refusal_words.specs.Words.{words_of}
use Rattle.block_lines.specs.Lines.{frame_line}
use Rattle.block_text.specs.Answers.{refused_text, control_by, map_text}

refused : refused_text 13 4000 ≡ bytes "refused 13 at 4000\na source names nothing\n"
unfolding decimal words_of
refused = refl

-- a number that is not in the table of words
no_words : refused_text 17 0 ≡ bytes "refused 17 at 0\n"
unfolding decimal words_of
no_words = refl

mapped : map_text (record { verdict = accept; length = 3; bytes = 1 ∷ 20 ∷ 255 ∷ replicate 29 0 }) ≡ bytes "controls 1 20 255\n"
unfolding decimal
mapped = refl

no-controls : map_text (record { verdict = accept; length = 0; bytes = replicate 32 0 }) ≡ bytes "controls\n"
no-controls = refl

framed : frame_line (record { format = 1; k = 3; width = 640; height = 480; offset = 49; size = 614400; interval = 333333 }) ≡ bytes "frame 1 640 480 614400 333333 3 49\n"
unfolding decimal
framed = refl

table : control_by accept (record { count = 1; entities = record { id = 1; kind = 2; terminal = 513; offset = 13 } ∷ record { id = 9; kind = 9; terminal = 9; offset = 9 } ∷ []; clock = 48000000; revision = R10 }) ≡ bytes "accepted\nrevision 1.0\nclock 48000000\nentity 1 2 513 13\n"
unfolding decimal
table = refl
