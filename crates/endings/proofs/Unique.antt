-- Two answers that a promise allows are equal.
use Rattle.session_rules.specs.Options.{Closing}
use Rattle.std.proofs.Common.{◌≡◌, ℕ, List, sym, ◌∙◌}
use Rattle.session_rules.specs.declared.Rest.{Rest}
use Rattle.session_rules.specs.declared.Outcome.{Outcome}
use Rattle.endings.specs.declared.Endings.{Endings}
use Rattle.endings.specs.Inner.{tell_taken, tell_closed}

pub taken-unique : (s : Rest) (t : List ℕ) (a : Outcome) (x y : Endings) → x ≡ tell_taken s t a → y ≡ tell_taken s t a → x ≡ y
taken-unique s t a x y p q = p ∙ sym q

pub closed-unique : (s : Rest) (a : Closing) (x y : Endings) → x ≡ tell_closed s a → y ≡ tell_closed s a → x ≡ y
closed-unique s a x y p q = p ∙ sym q
