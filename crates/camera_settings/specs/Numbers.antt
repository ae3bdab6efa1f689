-- Source document 000, and document 02 (request Eleven): the numbers of the four settings and the six requests, a line for each.
use Rattle.std.specs.Prelude.{ℕ, ◌≡◌, Bool, true, false, None, Option, Some}
use Rattle.camera_settings.specs.declared.Setting.{Setting}
use Rattle.camera_settings.specs.declared.Setting.TheVariants.{Brightness, Contrast, Hue, Saturation}
use Rattle.camera_settings.specs.declared.Request.{Request}
use Rattle.camera_settings.specs.declared.Request.TheVariants.{GetCur, GetMin, GetMax, GetRes, GetDef, SetCur}

-- A.9.5, processing unit control selectors
abbrev pub selector_of : Setting → ℕ
selector_of Brightness = 0x02
selector_of Contrast = 0x03
selector_of Hue = 0x06
selector_of Saturation = 0x07

-- table 3-8, bmControls of a processing unit: the bit that says that the control is supported
abbrev pub bit_of : Setting → ℕ
bit_of Brightness = 0
bit_of Contrast = 1
bit_of Hue = 2
bit_of Saturation = 3

-- brightness and hue are signed, contrast and saturation unsigned
abbrev pub is_signed : Setting → Bool
is_signed Brightness = true
is_signed Contrast = false
is_signed Hue = true
is_signed Saturation = false

-- A.8, request codes
abbrev pub code_of : Request → ℕ
code_of GetCur = 0x81
code_of GetMin = 0x82
code_of GetMax = 0x83
code_of GetRes = 0x84
code_of GetDef = 0x87
code_of SetCur = 0x01

-- 4.1, bmRequestType: a class request to an interface, 10100001 to get and 00100001 to set
abbrev pub type_of : Request → ℕ
type_of GetCur = 0xA1
type_of GetMin = 0xA1
type_of GetMax = 0xA1
type_of GetRes = 0xA1
type_of GetDef = 0xA1
type_of SetCur = 0x21

-- the setting that has a selector, and the request that has a code: none where no line above has it
pub data SettingIs (n : ℕ) : Option Setting → Type 0 where
  has-selector : (s : Setting) → n ≡ selector_of s → SettingIs n (Some s)
  no-selector : ((s : Setting) → n ≡ selector_of s → ⊥) → SettingIs n None

pub data RequestIs (n : ℕ) : Option Request → Type 0 where
  has_code : (q : Request) → n ≡ code_of q → RequestIs n (Some q)
  no_code : ((q : Request) → n ≡ code_of q → ⊥) → RequestIs n None
