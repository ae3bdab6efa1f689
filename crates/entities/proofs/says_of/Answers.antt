use Rattle.entities.specs.Revisions.{says_of}
use Rattle.entities.proofs.says_of.Goals as goal

pub returns-in-R10 : goal.returns-in-R10
unfolding says_of
returns-in-R10 c = rw c.in-R10.is

pub returns-in-R11 : goal.returns-in-R11
unfolding says_of
returns-in-R11 c = rw c.in-R11.is

pub returns-in-R15 : goal.returns-in-R15
unfolding says_of
returns-in-R15 c = rw c.in-R15.is
