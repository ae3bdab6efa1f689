use Rattle.session_rules.specs.Accounts.{untimed_at}
use Rattle.session_rules.specs.Ledger.{timed_of}
use Rattle.ledger.proofs.Lent.{with-stepped, timed-none}
use Rattle.ledger.proofs.Rooms.{adding}
use native.Mathlib.Omega.{arith}
use Rattle.ledger.proofs.timed.Goals as goal

pub plus-requires : goal.plus-requires
plus-requires c = adding _ _ untimed_at 1 c.requires (omega arith) (omega arith) (omega arith)

pub returns-in-None : goal.returns-in-None
returns-in-None c = search timed-none

pub returns-in-None-last : goal.returns-in-None-last
unfolding timed_of
returns-in-None-last c = simp (c.in-Some.is, c.in-None-last.is)

pub returns-in-Some-last : goal.returns-in-Some-last
unfolding timed_of
returns-in-Some-last c = simp (
  c.in-Some.is,
  c.in-Some-last.is,
  c.stepped.ensures,
  c.step_between.ensures,
  with-stepped,
)
