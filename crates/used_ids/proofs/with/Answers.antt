use Rattle.used_ids.specs.Marks.{with_mark}
use Rattle.used_ids.proofs.with.Goals as goal

pub returns : goal.returns
unfolding with_mark
returns c = rw (c.with.ensures, c.wide-i.ensures.0)
