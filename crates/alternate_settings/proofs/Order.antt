-- The k-th setting is the one at place k of the list, and there is none exactly past its end.
use Rattle.std.specs.Prelude.{None, Some}
use Prim.Native.Nat.{ℕ, zero, suc, ◌≤◌, ◌<◌}
use mathlib.Core.Path.{◌≡◌, refl, sym}
use mathlib.Core.List.{List, [], ◌∷◌}
use mathlib.Core.Logic.{◌↔◌}
use lib.ListN.{length, get_or}
use native.Mathlib.Omega.{arith}
use Rattle.alternate_settings.specs.Inner.{kth_of}
use Rattle.alternate_settings.specs.Holding.{no_setting}
use Rattle.alternate_settings.specs.declared.Setting.{Setting}

apart : (x : Setting) → None ≡ Some x → ⊥
apart x e = let z : ◌≡◌ {A = ℕ} 0 1 = cc in omega arith

same : (x y : Setting) → Some x ≡ Some y → x ≡ y
same x y e = cc

pub kth-at : (l : List Setting) (k : ℕ) (x : Setting) → (kth_of l k ≡ Some x) ↔ ((k < length l) × (get_or l k no_setting ≡ x))
unfolding kth_of
kth-at [] k x = (λ e. absurd (apart x e), λ p. absurd (omega (arith, p.0)))
kth-at (y ∷ l) zero x = (λ e. (omega arith, same y x e), λ p. rw p.1)
kth-at (y ∷ l) (suc k) x = let r = kth-at l k x in (λ e. let q = r.0 e in (omega (arith, q.0), q.1), λ p. r.1 (omega (arith, p.0), p.1))

pub kth-past : (l : List Setting) (k : ℕ) → (kth_of l k ≡ None) ↔ (length l ≤ k)
unfolding kth_of
kth-past [] k = (λ e. omega arith, λ h. refl)
kth-past (y ∷ l) zero = (λ e. absurd (apart y (sym e)), λ h. absurd (omega arith))
kth-past (y ∷ l) (suc k) = let r = kth-past l k in (λ e. omega (arith, r.0 e), λ h. r.1 (omega arith))
