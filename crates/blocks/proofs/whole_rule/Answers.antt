use Rattle.rules.proofs.Ladder.{rungs}
use Rattle.blocks.specs.Blocks.{whole_rows}
use Rattle.blocks.proofs.Tests.{first-differs, second-differs, both-are, differs, agrees}
use Rattle.blocks.proofs.whole_rule.Goals as goal

pub returns-then-n-b : goal.returns-then-n-b
unfolding whole_rows
returns-then-n-b c = search rungs

pub returns-then-b-n : goal.returns-then-b-n
unfolding whole_rows
returns-then-b-n c = search rungs depth 8

pub returns-then-s-ne-DESCRIPTOR : goal.returns-then-s-ne-DESCRIPTOR
unfolding whole_rows
returns-then-s-ne-DESCRIPTOR c = search (rungs, first-differs) depth 9

pub returns-then-s-ne-HEADER : goal.returns-then-s-ne-HEADER
unfolding whole_rows
returns-then-s-ne-HEADER c = search (rungs, second-differs) depth 9

pub returns-then-total-n : goal.returns-then-total-n
unfolding whole_rows
returns-then-total-n c = search (rungs, both-are, differs) depth 9

pub returns : goal.returns
unfolding whole_rows
returns c = search (rungs, both-are, agrees) depth 9
