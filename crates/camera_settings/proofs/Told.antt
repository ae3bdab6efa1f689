-- What is found tells: the number is that of the setting or the request, or of none.
use Rattle.std.specs.Prelude.{None, Option, Some}
use Prim.Native.Nat.{ℕ}
use mathlib.Core.Path.{◌≡◌}
use native.Mathlib.Omega.{arith}
use Rattle.camera_settings.specs.Numbers.{selector_of, code_of, SettingIs, SettingIs.has-selector, SettingIs.no-selector, RequestIs, RequestIs.has_code, RequestIs.no_code}
use Rattle.camera_settings.specs.declared.Setting.{Setting}
use Rattle.camera_settings.specs.declared.Request.{Request}

module _ (n : ℕ) where
  pub selector-is : {g : Option Setting} → SettingIs n g → (c : Setting) → g ≡ Some c → n ≡ selector_of c
  selector-is (has-selector s e) c p = let z : s ≡ c = cc in rw (← z) e
  selector-is (no-selector f) c p = absurd (let z : ◌≡◌ {A = ℕ} 0 1 = cc in omega arith)

  pub selector-none : {g : Option Setting} → SettingIs n g → g ≡ None → (c : Setting) → n ≡ selector_of c → ⊥
  selector-none (has-selector s e) p c q = absurd (let z : ◌≡◌ {A = ℕ} 0 1 = cc in omega arith)
  selector-none (no-selector f) p c q = f c q

  pub code_is : {g : Option Request} → RequestIs n g → (q : Request) → g ≡ Some q → n ≡ code_of q
  code_is (has_code s e) q p = let z : s ≡ q = cc in rw (← z) e
  code_is (no_code f) q p = absurd (let z : ◌≡◌ {A = ℕ} 0 1 = cc in omega arith)

  pub code-none : {g : Option Request} → RequestIs n g → g ≡ None → (q : Request) → n ≡ code_of q → ⊥
  code-none (has_code s e) p q h = absurd (let z : ◌≡◌ {A = ℕ} 0 1 = cc in omega arith)
  code-none (no_code f) p q h = f q h
