-- The place lies in the file, and with what stands in front and behind it is the whole of it.
use mathlib.Core.Path.{◌≡◌, refl, sym, subst, ◌∙◌}
use mathlib.Core.Bool.{Bool, true, false}
use mathlib.Core.List.{List}
use Prim.Native.Nat.{ℕ, ◌+◌, ◌-◌, ◌*◌, ◌≤◌}
use native.Mathlib.Omega.{arith}
use borrow.Author.Tests.{ltb-false}
use lib.Dec.{T, ltb}
use lib.ListN.{length, get_or}
use Rattle.rules.specs.IfElse.{if_else}
use Rattle.device_file.specs.Place.{is_device, place_in, first_of, whole, total_of}
use Rattle.device_file.specs.declared.Place.{Place}

-- a device descriptor is whole
by_length : (b c : Bool) → if_else b false c ≡ true → b ≡ false
unfolding if_else
by_length false c e = refl
by_length true c e = absurd (subst T (sym e) tt)

pub device-long : (f : List ℕ) → is_device f ≡ true → 18 ≤ length f
unfolding is_device
device-long f e = ltb-false (length f) 18 (by_length (ltb (length f) 18) _ e)

-- NOTHING IS LOST: what stands in front, the configuration and what stands behind it are the file
abbrev All : List ℕ → Place → Type 0
All f p = p.offset + p.length + p.behind ≡ length f

of-first : (f : List ℕ) (total : ℕ) → 18 ≤ length f → (b : Bool) → ltb (length f - 18) total ≡ b
    → All f (if_else b (record { offset = 18; length = length f - 18; behind = 0 }) (record { offset = 18; length = total; behind = length f - 18 - total }))
unfolding if_else
of-first f total h true e = omega arith
of-first f total h false e = omega (arith, ltb-false (length f - 18) total e)

of-any : (f : List ℕ) (b : Bool) → is_device f ≡ b → All f (if_else b (first_of (total_of f) (length f - 18)) (whole f))
unfolding if_else first_of
of-any f true e = of-first f (total_of f) (device-long f e) (ltb (length f - 18) (total_of f)) refl
of-any f false e = omega arith

pub all : (f : List ℕ) → All f (place_in f)
unfolding place_in
all f = of-any f (is_device f) refl

-- the laws of `find` and `total`, by outcome
pub total-is : (f : List ℕ) (a b r : ℕ) → a ≡ get_or f 20 0 → b ≡ get_or f 21 0 → r ≡ a + b * 256 → r ≡ total_of f
unfolding total_of
total-is f a b r p q e = rw (e, p, q)

within : (f : List ℕ) (r : Place) → r ≡ place_in f → (r ≡ place_in f) × (r.offset + r.length ≤ length f)
within f r e = (e, subst (λ (p : Place). p.offset + p.length ≤ length f) (sym e) (omega (arith, all f)))

pub at-device : (f : List ℕ) (b : Bool) (t : ℕ) (r : Place) → b ≡ is_device f → b ≡ true → t ≡ total_of f → r ≡ first_of t (length f - 18) → (r ≡ place_in f) × (r.offset + r.length ≤ length f)
unfolding place_in if_else
at-device f b t r p e q k = within f r (rw (k, q, ← p, e))

pub at_other : (f : List ℕ) (b : Bool) → b ≡ is_device f → b ≡ false → (whole f ≡ place_in f) × (0 + length f ≤ length f)
unfolding place_in if_else
at_other f b p e = (rw (← p, e), omega arith)

pub long : (f : List ℕ) (b : Bool) → b ≡ is_device f → b ≡ true → 18 ≤ length f
long f b p e = device-long f (sym p ∙ e)
