use Rattle.interfaces.proofs.Searching.{steps-in}
use Rattle.configuration_layout.proofs.Tests.{no-control, second-control, one-control}
use Rattle.configuration_layout.proofs.rule_72.Goals as goal

pub next-second-requires : goal.next-second-requires
next-second-requires c = search steps-in

pub returns-then-second-s : goal.returns-then-second-s
returns-then-second-s c = search second-control

pub returns-then-first-s : goal.returns-then-first-s
returns-then-first-s c = search one-control

pub returns : goal.returns
returns c = search no-control
