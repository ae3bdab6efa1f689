-- A verdict is one: a refusal is no acceptance, and two refusals that are the same have the same number and place.
use Rattle.std.specs.Prelude.{Ok, Err}
use Rattle.rules.specs.Verdicts.{Verdict, accept, refuse}
use Prim.Native.Nat.{ℕ}
use mathlib.Core.Path.{◌≡◌, sym, ◌∙◌, ap}
use native.Mathlib.Omega.{arith}

-- the number and the place of a refusal; 0 where nothing is refused
abbrev number_in : Verdict → ℕ
number_in (Ok u) = 0
number_in (Err r) = r.number

abbrev place_in : Verdict → ℕ
place_in (Ok u) = 0
place_in (Err r) = r.offset

pub apart : (k o : ℕ) → refuse k o ≡ accept → ⊥
apart k o e = let z : ◌≡◌ {A = ℕ} 0 1 = cc in omega arith

pub clash : (v : Verdict) (k o : ℕ) → v ≡ refuse k o → v ≡ accept → ⊥
clash v k o e q = apart k o (sym e ∙ q)

pub same-refusal : (j p k o : ℕ) → refuse j p ≡ refuse k o → (j ≡ k) × (p ≡ o)
same-refusal j p k o e = (ap number_in e, ap place_in e)

-- so that what is made of the number and the place is the same
pub same_by : {A : Type 0} (f : ℕ → ℕ → A) (j p k o : ℕ) → refuse j p ≡ refuse k o → f j p ≡ f k o
same_by f j p k o e = let s = same-refusal j p k o e in rw (s.0, s.1)
