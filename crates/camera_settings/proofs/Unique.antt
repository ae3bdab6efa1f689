-- The promises of `setting_of` and `request_of` leave one answer.
use Rattle.std.specs.Prelude.{Option, Some}
use Prim.Native.Nat.{ℕ}
use mathlib.Core.Path.{◌≡◌, refl, sym, ap, ◌∙◌}
use Rattle.camera_settings.specs.Numbers.{SettingIs, SettingIs.has-selector, SettingIs.no-selector, RequestIs, RequestIs.has_code, RequestIs.no_code}
use Rattle.camera_settings.specs.declared.Setting.{Setting}
use Rattle.camera_settings.specs.declared.Request.{Request}
use Rattle.camera_settings.proofs.Known.{selector-different, code-different}

pub setting-unique : (n : ℕ) {r t : Option Setting} → SettingIs n r → SettingIs n t → r ≡ t
setting-unique n (has-selector s e) (has-selector t f) = ap Some (selector-different s t (sym e ∙ f))
setting-unique n (has-selector s e) (no-selector f) = absurd (f s e)
setting-unique n (no-selector e) (has-selector t f) = absurd (e t f)
setting-unique n (no-selector e) (no-selector f) = refl

pub request-unique : (n : ℕ) {r t : Option Request} → RequestIs n r → RequestIs n t → r ≡ t
request-unique n (has_code p e) (has_code q f) = ap Some (code-different p q (sym e ∙ f))
request-unique n (has_code p e) (no_code f) = absurd (f p e)
request-unique n (no_code e) (has_code q f) = absurd (e q f)
request-unique n (no_code e) (no_code f) = refl
