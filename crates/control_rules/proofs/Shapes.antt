-- The numbers that the shape functions go by, and a subtype that is unknown.
use Prim.Native.Nat.{ℕ, zero, suc, ◌<◌}
use mathlib.Core.Path.{◌≡◌, refl}
use native.Mathlib.Omega.{arith}
use Rattle.entities.specs.Revisions.{says_of}
use Rattle.entities.specs.declared.Revision.{Revision}
use Rattle.entities.specs.declared.Revision.TheVariants.{R10, R11, R15}
use Rattle.entities.specs.declared.Says.{Says}
use Rattle.control_rules.specs.Descriptors.{unknown, kind_of}

-- the control size lies within what every revision's descriptor has
pub unit-long : (v : Revision) (y : Says) → y ≡ says_of v → (7 < y.unit) × (y.unit < 256)
unfolding says_of
unit-long R10 y e = rw e (omega arith, omega arith)
unit-long R11 y e = rw e (omega arith, omega arith)
unit-long R15 y e = rw e (omega arith, omega arith)

pub camera-long : (v : Revision) (y : Says) → y ≡ says_of v → (14 < y.camera) × (y.camera < 256)
unfolding says_of
camera-long R10 y e = rw e (omega arith, omega arith)
camera-long R11 y e = rw e (omega arith, omega arith)
camera-long R15 y e = rw e (omega arith, omega arith)

-- a number that is none of the seven
pub kind-unknown : (x : ℕ) → (x ≡ 1 → ⊥) → (x ≡ 2 → ⊥) → (x ≡ 3 → ⊥) → (x ≡ 4 → ⊥) → (x ≡ 5 → ⊥) → (x ≡ 6 → ⊥) → (x ≡ 7 → ⊥) → kind_of x ≡ unknown
unfolding kind_of
kind-unknown zero a b c d e f g = refl
kind-unknown (suc zero) a b c d e f g = absurd (a refl)
kind-unknown (suc (suc zero)) a b c d e f g = absurd (b refl)
kind-unknown (suc (suc (suc zero))) a b c d e f g = absurd (c refl)
kind-unknown (suc (suc (suc (suc zero)))) a b c d e f g = absurd (d refl)
kind-unknown (suc (suc (suc (suc (suc zero))))) a b c d e f g = absurd (e refl)
kind-unknown (suc (suc (suc (suc (suc (suc zero)))))) a b c d e f g = absurd (f refl)
kind-unknown (suc (suc (suc (suc (suc (suc (suc zero))))))) a b c d e f g = absurd (g refl)
kind-unknown (suc (suc (suc (suc (suc (suc (suc (suc n)))))))) a b c d e f g = refl

pub ruleset cameras = (camera-long)
