use Rattle.control_map.proofs.Mapping.{by-nowhere, by-at}
use Rattle.control_map.proofs.controls_of.Goals as goal

pub returns-in-None : goal.returns-in-None
returns-in-None c = by-nowhere _ c.args.e _ c.controls_place.ensures c.in-None.is _ c.refused.ensures

pub returns-in-Some : goal.returns-in-Some
returns-in-Some c = by-at _ c.args.e _ _ _ c.controls_place.ensures c.in-Some.is c.controls_at.ensures
