-- Texts that antt computes.
use Rattle.rules.specs.Verdicts.{accept}
use mathlib.Core.Path.{◌≡◌, refl}
use Rattle.rules.specs.IfElse.{if_else}
use Rattle.camera_settings.specs.declared.Setting.TheVariants.{Brightness, Contrast, Hue}
use Rattle.camera_settings.specs.declared.Request.TheVariants.{GetCur, SetCur}
use Rattle.packets.specs.Packets.{packet_of}
use Rattle.packets.specs.declared.Reading.TheVariants as reading
use Rattle.nearest.specs.Word.{integer_of}
use Rattle.text.specs.Decimal.{decimal}
use Rattle.text.specs.Text.{bytes}
use Rattle.refusal_words.specs.Words.{words_of}
use Rattle.setup_text.specs.Answers.{built_text, read_text, moved_by}

-- brightness of unit 3 on interface 0, GET_CUR: A1 81 00 02 00 03 02 00
built : built_text accept (packet_of 0 3 Brightness GetCur) ≡ bytes "packet 161 129 0 2 0 3 2 0\n"
unfolding decimal
built = refl

asked : read_text (reading.Asks 3 Hue SetCur) ≡ bytes "unit 3 control hue request set_cur\n"
unfolding decimal
asked = refl

refused : read_text (reading.Refused 95 0) ≡ bytes "refused 95 at 0\nthe bytes are no setup packet for this camera and interface\n"
unfolding decimal words_of
refused = refl

-- the same word of a signed and of an unsigned setting
below : moved_by accept Hue 32768 ≡ bytes "number -32768\n"
unfolding decimal integer_of if_else
below = refl

above : moved_by accept Contrast 32768 ≡ bytes "number 32768\n"
unfolding decimal integer_of if_else
above = refl
