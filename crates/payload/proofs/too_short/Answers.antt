use Rattle.session_rules.specs.Transfer.{need_of}
use Rattle.payload.proofs.too_short.Goals as goal

pub returns : goal.returns
unfolding need_of
returns c = simp (c.layer_place.ensures.0, c.held-layer.ensures.0, c.has_layer.ensures)
