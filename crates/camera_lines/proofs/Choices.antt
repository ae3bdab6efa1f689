-- What is put is the text that a test chooses: `search choices` goes through a definition's tests.
use mathlib.Core.Path.{◌≡◌, sym, ◌∙◌}
use mathlib.Core.Bool.{Bool, true, false}
use mathlib.Core.List.{List}
use Prim.Native.Nat.{ℕ}
use borrow.Author.Tests.{eq-eqb, ne_eqb}
use Rattle.rules.specs.IfElse.{if_else}
use Rattle.text.specs.Put.{Put}

pub yes : {old new : List ℕ} {at r : ℕ} (t : Bool) (a b : List ℕ) → t ≡ true → Put old at a r new → Put old at (if_else t a b) r new
unfolding if_else
yes t a b e p = rw e p

pub no : {old new : List ℕ} {at r : ℕ} (t : Bool) (a b : List ℕ) → t ≡ false → Put old at b r new → Put old at (if_else t a b) r new
unfolding if_else
no t a b e p = rw e p

pub said-yes : {old new : List ℕ} {at r : ℕ} (x t : Bool) (a b : List ℕ) → x ≡ t → x ≡ true → Put old at a r new → Put old at (if_else t a b) r new
said-yes x t a b d e p = yes t a b (sym d ∙ e) p

pub said-no : {old new : List ℕ} {at r : ℕ} (x t : Bool) (a b : List ℕ) → x ≡ t → x ≡ false → Put old at b r new → Put old at (if_else t a b) r new
said-no x t a b d e p = no t a b (sym d ∙ e) p

pub ruleset choices = (yes, no, said-yes, said-no, eq-eqb, ne_eqb)

-- of a number that was read
pub read : (f : ℕ → List ℕ) (n m : ℕ) {old new : List ℕ} {at r : ℕ} → n ≡ m → Put old at (f n) r new → Put old at (f m) r new
read f n m e p = rw e at p
