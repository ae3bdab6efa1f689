-- Code that answers Ok where no rule is broken, and else Err with the number of the first that is: `kept` of that number, which is 0 where none is.
use Prim.Native.Nat.{ℕ, zero, suc, ◌<◌}
use mathlib.Core.Path.{◌≡◌, refl, sym, ◌∙◌, ap}
use mathlib.Core.Bool.{Bool, true, false}
use native.Mathlib.Omega.{arith}
use Rattle.std.specs.Prelude.{Result, Ok, Err}
use Rattle.rules.specs.Numbered.{kept, or_else}
use Rattle.rules.proofs.Ladder.{said, said-not-yes, said-not-no, not-said}
use borrow.Author.Tests.{lt-ltb, le-ltb, lt-leb, le-leb, eq-eqb, ne_eqb}

-- ---- to an answer
pub err-kept : (k r : ℕ) → 0 < k → k ≡ r → Err k ≡ kept r
err-kept zero r p e = absurd (omega arith)
err-kept (suc k) r p e = ap kept e

pub ok-kept : (r : ℕ) → 0 ≡ r → Ok tt ≡ kept r
ok-kept r e = ap kept e

-- one test of code that checks rules in their order
pub row-err : (b : Bool) (k r : ℕ) → 0 < k → b ≡ true → Err k ≡ kept (or_else b k r)
row-err b k r p e = err-kept k (or_else b k r) p (rw e refl)

pub row-on : (b : Bool) (k r : ℕ) (x : Result (Unit {0}) ℕ) → b ≡ false → x ≡ kept r → x ≡ kept (or_else b k r)
row-on b k r x e q = rw e q

-- ---- from an answer
abbrev number_of : Result (Unit {0}) ℕ → ℕ
number_of (Ok u) = 0
number_of (Err k) = k

of-kept : (r : ℕ) → number_of (kept r) ≡ r
of-kept zero = refl
of-kept (suc r) = refl

pub kept-err : (k r : ℕ) → kept r ≡ Err k → r ≡ k
kept-err k r e = sym (of-kept r) ∙ ap number_of e

pub kept-ok : (u : Unit {0}) (r : ℕ) → kept r ≡ Ok u → r ≡ 0
kept-ok u r e = sym (of-kept r) ∙ ap number_of e

-- as a callee's contract has them
pub err-is : (k r : ℕ) → Err k ≡ kept r → r ≡ k
err-is k r e = kept-err k r (sym e)

pub ok-is : (u : Unit {0}) (r : ℕ) → Ok u ≡ kept r → r ≡ 0
ok-is u r e = kept-ok u r (sym e)

-- the number of a broken rule is not 0
pub err-above : (k r : ℕ) → Err k ≡ kept r → 0 < k
err-above k zero e = let z : ◌≡◌ {A = ℕ} 0 1 = cc in omega arith
err-above k (suc r) e = omega (arith, err-is k (suc r) e)

-- `search kept_rungs` goes down the list of rows beside the code
pub ruleset kept_rungs = (row-err, row-on, arith, said, not-said, said-not-yes, said-not-no, lt-ltb, le-ltb, lt-leb, le-leb, eq-eqb, ne_eqb)
