-- The promises of the crate leave one answer: no two settings and no two requests have the same name.
use Rattle.std.specs.Prelude.{Option, Some}
use Prim.Native.Nat.{ℕ}
use Rattle.camera_settings.specs.declared.Setting.{Setting}
use Rattle.camera_settings.specs.declared.Request.{Request}
use mathlib.Core.Path.{◌≡◌, refl, sym, ap, ◌∙◌}
use mathlib.Core.List.{List, [], ◌++◌}
use Rattle.setup_lines.proofs.Different.{setting-split, request-split}
use Rattle.setup_arguments.specs.Arguments.{SettingNamed, RequestNamed}
use Rattle.setup_arguments.specs.Arguments as arguments

pub setting-unique : (word : List ℕ) {r t : Option Setting} → SettingNamed word r → SettingNamed word t → r ≡ t
setting-unique word (arguments.SettingNamed.named c e) (arguments.SettingNamed.named d f) = ap Some (setting-split c d [] [] (ap (λ (l : List ℕ). l ++ []) (sym e ∙ f))).0
setting-unique word (arguments.SettingNamed.named c e) (arguments.SettingNamed.unnamed f) = absurd (f c e)
setting-unique word (arguments.SettingNamed.unnamed e) (arguments.SettingNamed.named d f) = absurd (e d f)
setting-unique word (arguments.SettingNamed.unnamed e) (arguments.SettingNamed.unnamed f) = refl

pub request-unique : (word : List ℕ) {r t : Option Request} → RequestNamed word r → RequestNamed word t → r ≡ t
request-unique word (arguments.RequestNamed.named p e) (arguments.RequestNamed.named q f) = ap Some (request-split p q [] [] (ap (λ (l : List ℕ). l ++ []) (sym e ∙ f)))
request-unique word (arguments.RequestNamed.named p e) (arguments.RequestNamed.unnamed f) = absurd (f p e)
request-unique word (arguments.RequestNamed.unnamed e) (arguments.RequestNamed.named q f) = absurd (e q f)
request-unique word (arguments.RequestNamed.unnamed e) (arguments.RequestNamed.unnamed f) = refl
