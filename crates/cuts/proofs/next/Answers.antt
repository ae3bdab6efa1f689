use Rattle.cuts.proofs.Walk.{next-short, next-whole}
use Rattle.cuts.proofs.next.Goals as goal

pub returns-then-len-at : goal.returns-then-len-at
returns-then-len-at c = search next-short

pub returns : goal.returns
returns c = search next-whole
