-- Code that tests numbered rules one after the other and answers the first that is broken: `search rungs` goes down the list of rows beside it.
use mathlib.Core.Path.{◌≡◌, sym, ◌∙◌, ap}
use mathlib.Core.Bool.{Bool, true, false, not}
use borrow.Author.Tests.{lt-ltb, le-ltb, lt-leb, le-leb, eq-eqb, ne_eqb}
use Rattle.rules.proofs.Rows.{row-yes, row-no}

-- by a test that a callee answered
pub said : (s t v : Bool) → s ≡ t → s ≡ v → t ≡ v
said s t v e p = sym e ∙ p

pub said-not-yes : (s t : Bool) → s ≡ t → s ≡ true → not t ≡ false
said-not-yes s t e p = ap not (sym e ∙ p)

pub said-not-no : (s t : Bool) → s ≡ t → s ≡ false → not t ≡ true
said-not-no s t e p = ap not (sym e ∙ p)

pub not-said : (s t v : Bool) → s ≡ t → not s ≡ v → not t ≡ v
not-said s t v e p = rw (← e) p

pub ruleset rungs = (row-yes, row-no, said, not-said, said-not-yes, said-not-no, lt-ltb, le-ltb, lt-leb, le-leb, eq-eqb, ne_eqb)
