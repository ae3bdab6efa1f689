-- What the tests of the posted accounts say together.
use Prim.Native.Nat.{ℕ, ◌<◌}
use mathlib.Core.Path.{◌≡◌, sym, ◌∙◌}
use mathlib.Core.List.{List}
use mathlib.Core.Bool.{Bool, true, false}
use Rattle.rules.specs.Numbered.{any_below}
use Rattle.rules.proofs.Rows.{any_none, any_some}
use Rattle.session_rules.specs.Accounts.{account_count}
use Rattle.rule_50.specs.Inner.{posted_account}

pub some-account : (l : List ℕ) (n k : ℕ) (x : Bool) → k < account_count → x ≡ posted_account l n k → x ≡ true → true ≡ any_below account_count (posted_account l n)
some-account l n k x h e y = sym (any_some account_count (posted_account l n) k h (sym e ∙ y))

pub no-account : (l : List ℕ) (n : ℕ) → ((k : ℕ) → k < account_count → posted_account l n k ≡ false) → false ≡ any_below account_count (posted_account l n)
no-account l n h = sym (any_none account_count (posted_account l n) h)
