use Rattle.used_ids.specs.Marks.{marked}
use Rattle.used_ids.proofs.has.Goals as goal

pub returns : goal.returns
unfolding marked
returns c = rw (c.has.ensures, c.wide-i.ensures.0)
