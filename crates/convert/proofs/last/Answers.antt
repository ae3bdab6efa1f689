use Rattle.convert.proofs.Feeds.{last-ended}
use Rattle.convert.proofs.last.Goals as goal

pub returns : goal.returns
returns c = last-ended c.args.r _ _ _ _ _ c.run-w.ensures.converter_value
