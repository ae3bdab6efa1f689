-- The names of the class: appendix B of 1.5 for terminal types, tables 3-6 and 3-8 for the controls of a camera terminal and of a processing unit.
use Rattle.std.specs.Prelude.{ℕ, zero, suc, ◌+◌, ◌/◌, ◌%◌, ◌^◌, Bool, true, false, List, [], ◌∷◌, ◌++◌, eqb, leb, get_or}
use Rattle.le.specs.Le.{byte}
use Rattle.rules.specs.IfElse.{if_else}
use Rattle.rules.specs.Place.{first_place}
use Rattle.text.specs.Text.{bytes, line}
use Rattle.name_tables.specs.Tables.{name_at}

-- the terminal types, and their names in the same order; one more name for every other type
abbrev pub terminal_types : List ℕ
terminal_types =
    0x0100 ∷ 0x0101 ∷ 0x0200 ∷ 0x0201 ∷ 0x0202 ∷ 0x0300 ∷ 0x0301 ∷ 0x0302 ∷ 0x0400 ∷ 0x0401 ∷ 0x0402 ∷ 0x0403 ∷ []

abbrev pub terminal_names : List ℕ
terminal_names =
    bytes "vendor specific\nUSB streaming\n"
    ++ (bytes "vendor specific input\ncamera sensor\nsequential media input\n"
    ++ (bytes "vendor specific output\ngeneric display\nsequential media output\n"
    ++ (bytes "vendor specific external\ncomposite video connector\nS-video connector\ncomponent video connector\n" ++ bytes "not named by the class\n")))

unfoldable pub terminal_place : ℕ → ℕ
terminal_place n = first_place (λ i. eqb (get_or terminal_types i 0) n) 12

-- the name of a terminal type, on a line of its own
unfoldable pub terminal_text : ℕ → List ℕ
terminal_text n = line (name_at (terminal_place n) terminal_names) []

-- D0 to D23 of a camera terminal
abbrev pub camera_names : List ℕ
camera_names =
    bytes "Scanning Mode\nAuto-Exposure Mode\nAuto-Exposure Priority\nExposure Time (Absolute)\nExposure Time (Relative)\n"
    ++ (bytes "Focus (Absolute)\nFocus (Relative)\nIris (Absolute)\nIris (Relative)\nZoom (Absolute)\nZoom (Relative)\n"
    ++ (bytes "PanTilt (Absolute)\nPanTilt (Relative)\nRoll (Absolute)\nRoll (Relative)\nreserved (D15)\nreserved (D16)\n"
    ++ bytes "Focus, Auto\nPrivacy\nFocus, Simple\nWindow\nRegion of Interest\nreserved (D22)\nreserved (D23)\n"))

-- D0 to D23 of a processing unit
abbrev pub processing_names : List ℕ
processing_names =
    bytes "Brightness\nContrast\nHue\nSaturation\nSharpness\nGamma\nWhite Balance Temperature\nWhite Balance Component\n"
    ++ (bytes "Backlight Compensation\nGain\nPower Line Frequency\nHue, Auto\nWhite Balance Temperature, Auto\n"
    ++ (bytes "White Balance Component, Auto\nDigital Multiplier\nDigital Multiplier Limit\nAnalog Video Standard\n"
    ++ bytes "Analog Video Lock Status\nContrast, Auto\nreserved (D19)\nreserved (D20)\nreserved (D21)\nreserved (D22)\nreserved (D23)\n"))

-- bit i of the map of n bytes at k: the bits of a byte count from its lowest, and a bit past the map is clear
unfoldable pub is_set : List ℕ → ℕ → ℕ → ℕ → ℕ → Bool
is_set s o k n i = if_else (leb n (i / 8)) false (eqb (byte s o (k + i / 8) / 2 ^ (i % 8) % 2) 1)

-- a control that is there: its name, on a line of its own
abbrev pub control_text : List ℕ → ℕ → Bool → List ℕ
control_text names i true = bytes "      " ++ line (name_at i names) []
control_text names i false = []

-- of the next `left` bits, from i on
unfoldable pub controls_text : List ℕ → ℕ → ℕ → ℕ → List ℕ → ℕ → ℕ → List ℕ
controls_text s o k n names zero i = []
controls_text s o k n names (suc left) i = control_text names i (is_set s o k n i) ++ controls_text s o k n names left (suc i)
