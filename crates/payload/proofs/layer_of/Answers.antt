use mathlib.Core.Path.{sym, ◌∙◌}
use native.Mathlib.Omega.{arith}
use Rattle.session_rules.proofs.Readings.{layer-room}
use Rattle.rules.specs.IfElse.{if_elses}
use Rattle.session_rules.specs.Transfer.{layer_of}
use Rattle.payload.proofs.layer_of.Goals as goal

pub le16-requires : goal.le16-requires
le16-requires c = let h = layer-room c.args.l _ (sym c.has_layer.ensures ∙ c.if-has_layer.true) in omega (arith, c.layer_place.ensures.0)

pub returns-then-has_layer : goal.returns-then-has_layer
unfolding layer_of
returns-then-has_layer c = rw (← c.layer_place.ensures.0) (search if_elses depth 8)

pub returns-else-has_layer : goal.returns-else-has_layer
unfolding layer_of
returns-else-has_layer c = search if_elses depth 8
