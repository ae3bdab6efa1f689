-- What holds of each of the four settings, or of the six requests, holds of all; what is none of their numbers.
use Rattle.std.specs.Prelude.{None}
use Prim.Native.Nat.{ℕ}
use mathlib.Core.Path.{◌≡◌, refl, sym, ap, ◌∙◌}
use mathlib.Core.Bool.{cond}
use lib.Dec.{eqb}
use Rattle.camera_settings.specs.Numbers.{selector_of, code_of, SettingIs, SettingIs.no-selector, RequestIs, RequestIs.no_code}
use Rattle.camera_settings.specs.declared.Setting.{Setting}
use Rattle.camera_settings.specs.declared.Setting.TheVariants.{Brightness, Contrast, Hue, Saturation}
use Rattle.camera_settings.specs.declared.Request.{Request}
use Rattle.camera_settings.specs.declared.Request.TheVariants.{GetCur, GetMin, GetMax, GetRes, GetDef, SetCur}

-- what holds of the four, or of the six, holds of all
pub each-setting : (P : Setting → Type 0) → P Brightness → P Contrast → P Hue → P Saturation → (s : Setting) → P s
each-setting P a b c d Brightness = a
each-setting P a b c d Contrast = b
each-setting P a b c d Hue = c
each-setting P a b c d Saturation = d

pub each-request : (P : Request → Type 0) → P GetCur → P GetMin → P GetMax → P GetRes → P GetDef → P SetCur → (q : Request) → P q
each-request P a b c d e f GetCur = a
each-request P a b c d e f GetMin = b
each-request P a b c d e f GetMax = c
each-request P a b c d e f GetRes = d
each-request P a b c d e f GetDef = e
each-request P a b c d e f SetCur = f

pub no-setting : (n : ℕ) → (n ≡ 0x02 → ⊥) → (n ≡ 0x03 → ⊥) → (n ≡ 0x06 → ⊥) → (n ≡ 0x07 → ⊥) → SettingIs n None
no-setting n a b c d = no-selector (each-setting (λ s. n ≡ selector_of s → ⊥) a b c d)

pub no-request : (n : ℕ) → (n ≡ 0x81 → ⊥) → (n ≡ 0x82 → ⊥) → (n ≡ 0x83 → ⊥) → (n ≡ 0x84 → ⊥) → (n ≡ 0x87 → ⊥) → (n ≡ 0x01 → ⊥) → RequestIs n None
no-request n a b c d e f = no_code (each-request (λ q. n ≡ code_of q → ⊥) a b c d e f)

-- a setting and a request again, from their numbers
setting_again : ℕ → Setting
setting_again n = cond (eqb n 0x02) Brightness (cond (eqb n 0x03) Contrast (cond (eqb n 0x06) Hue Saturation))

again-setting : (s : Setting) → setting_again (selector_of s) ≡ s
unfolding setting_again
again-setting = each-setting (λ s. setting_again (selector_of s) ≡ s) refl refl refl refl

request_again : ℕ → Request
request_again n = cond (eqb n 0x81) GetCur (cond (eqb n 0x82) GetMin (cond (eqb n 0x83) GetMax (cond (eqb n 0x84) GetRes (cond (eqb n 0x87) GetDef SetCur))))

again-request : (q : Request) → request_again (code_of q) ≡ q
unfolding request_again
again-request = each-request (λ q. request_again (code_of q) ≡ q) refl refl refl refl refl refl

-- NO TWO SETTINGS have the same selector, and no two requests the same code
pub selector-different : (s t : Setting) → selector_of s ≡ selector_of t → s ≡ t
selector-different s t e = sym (again-setting s) ∙ ap setting_again e ∙ again-setting t

pub code-different : (p q : Request) → code_of p ≡ code_of q → p ≡ q
code-different p q e = sym (again-request p) ∙ ap request_again e ∙ again-request q
