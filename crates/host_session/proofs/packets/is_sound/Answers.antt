use borrow.Author.Tests.{not-true}
use mathlib.Core.Path.{sym, ◌∙◌}
use Rattle.host_session.proofs.Ways.{never}
use Rattle.host_session.proofs.packets.is_sound.Goals as goal

pub returns-then-spare_set : goal.returns-then-spare_set
returns-then-spare_set c = λ q. never q

pub returns : goal.returns
returns c = λ q. record { spare = sym c.spare_set.ensures ∙ c.if-spare_set.false; posted = rw (← c.rest_in-rest.ensures, ← c.posted_broken.ensures) (not-true _ q) }
