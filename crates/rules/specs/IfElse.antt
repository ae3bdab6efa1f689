-- If, then, else over any type, and the laws by which `search if_elses` goes through a definition's tests.
use Rattle.std.specs.Prelude.{◌≡◌, Bool, true, false}
use Rattle.std.proofs.Common.{sym, ◌∙◌, lt-ltb, le-ltb, le-leb, eq-eqb, ne_eqb}
use Rattle.std.proofs.lemmas.Bool.{lt-leb}

unfoldable pub if_else : {A : Type 0} → Bool → A → A → A
if_else true a b = a
if_else false a b = b

-- by a test that is known
pub yes : {A : Type 0} (t : Bool) (x a b : A) → t ≡ true → x ≡ a → x ≡ if_else t a b
unfolding if_else
yes t x a b p q = rw p q

pub no : {A : Type 0} (t : Bool) (x a b : A) → t ≡ false → x ≡ b → x ≡ if_else t a b
unfolding if_else
no t x a b p q = rw p q

-- by a test that a callee answered
pub said-yes : {A : Type 0} (s t : Bool) (x a b : A) → s ≡ t → s ≡ true → x ≡ a → x ≡ if_else t a b
said-yes s t x a b e p q = yes t x a b (sym e ∙ p) q

pub said-no : {A : Type 0} (s t : Bool) (x a b : A) → s ≡ t → s ≡ false → x ≡ b → x ≡ if_else t a b
said-no s t x a b e p q = no t x a b (sym e ∙ p) q

pub ruleset if_elses = (yes, no, said-yes, said-no, lt-ltb, le-ltb, le-leb, lt-leb, eq-eqb, ne_eqb)

-- what holds of both ways holds of the if_else
pub if_else-all : {A : Type 0} (P : A → Type 0) (t : Bool) (a b : A) → P a → P b → P (if_else t a b)
unfolding if_else
if_else-all P true a b p q = p
if_else-all P false a b p q = q
