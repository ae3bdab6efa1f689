use Rattle.ledger.proofs.Rooms.{entering}
use Rattle.session_rules.proofs.Places.{not-under-way}
use Rattle.session_rules.specs.Accounts.{account_for}
use Rattle.ledger.proofs.ended.Goals as goal

pub entered-requires : goal.entered-requires
entered-requires c = rw c.account_for.ensures (entering _ _ _ (account_for c.in-Some.why) _ c.requires.0
    (not-under-way c.in-Some.why) c.requires.1)

pub returns-in-Some : goal.returns-in-Some
returns-in-Some c = simp (c.entered.ensures, c.account_for.ensures, c.in-Some.is)
