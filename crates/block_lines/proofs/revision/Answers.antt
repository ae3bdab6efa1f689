use borrow.Author.Rules.{rules}
use Rattle.block_lines.proofs.revision.Goals as goal

pub returns-in-R10 : goal.returns-in-R10
returns-in-R10 c = record { put = rw c.in-R10.is c.put.ensures; upper_bound = search rules }

pub returns-in-R11 : goal.returns-in-R11
returns-in-R11 c = record { put = rw c.in-R11.is c.put-in-R11.ensures; upper_bound = search rules }

pub returns-in-R15 : goal.returns-in-R15
returns-in-R15 c = record { put = rw c.in-R15.is c.put-in-R15.ensures; upper_bound = search rules }
