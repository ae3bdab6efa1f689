-- What is printed of a packet, of what it asks for, and of a number.
use Rattle.std.specs.Prelude.{List, [], ◌∷◌, ◌++◌, ℕ, suc, ℤ, pos, negsuc}
use Rattle.camera_settings.specs.declared.Setting.{Setting}
use Rattle.camera_settings.specs.declared.Setting.TheVariants.{Brightness, Contrast, Hue, Saturation}
use Rattle.camera_settings.specs.declared.Request.{Request}
use Rattle.camera_settings.specs.declared.Request.TheVariants.{GetCur, GetMin, GetMax, GetRes, GetDef, SetCur}
use Rattle.text.specs.Decimal.{decimal}
use Rattle.text.specs.Text.{bytes, number, line}

-- the names, as they are given and printed
abbrev pub setting_name : Setting → List ℕ
setting_name Brightness = bytes "brightness"
setting_name Contrast = bytes "contrast"
setting_name Hue = bytes "hue"
setting_name Saturation = bytes "saturation"

abbrev pub request_name : Request → List ℕ
request_name GetCur = bytes "get_cur"
request_name GetMin = bytes "get_min"
request_name GetMax = bytes "get_max"
request_name GetRes = bytes "get_res"
request_name GetDef = bytes "get_def"
request_name SetCur = bytes "set_cur"

-- the eight bytes
abbrev pub packet_line : List ℕ → List ℕ
packet_line p = line (bytes "packet") p

-- unit U control NAME request NAME
abbrev pub asks_line : ℕ → Setting → Request → List ℕ
asks_line u c q = bytes "unit" ++ (number u ++ (bytes " control " ++ (setting_name c ++ (bytes " request " ++ (request_name q ++ (10 ∷ []))))))

-- an integer: its digits, behind a minus sign where it is below zero
abbrev pub integer : ℤ → List ℕ
integer (pos n) = decimal n
integer (negsuc n) = bytes "-" ++ decimal (suc n)

abbrev pub number_line : ℤ → List ℕ
number_line z = bytes "number " ++ (integer z ++ (10 ∷ []))
