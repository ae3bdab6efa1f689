use Rattle.convert.proofs.Feeds.{rest-gone}
use Rattle.convert.proofs.rest.Goals as goal

pub returns : goal.returns
returns c = rest-gone _ _ _ _ _ _ _ _ _ _ _ _ c.end-to.ensures c.run-w.ensures.converter_value (c.fill-have.ensures.value, c.fill-have.ensures.piece_after)
