use Rattle.setup.proofs.Deciding.{gives-90, gives-91, gives-ready}
use Rattle.setup.proofs.ready_in.Goals as goal

pub returns-then-not-is_unit : goal.returns-then-not-is_unit
returns-then-not-is_unit c = gives-90 _ _ c.requires _ _ _ _ c.is_unit.ensures c.if-not-is_unit.true c.refused.ensures

pub returns-then-not-in_map : goal.returns-then-not-in_map
returns-then-not-in_map c = gives-91 _ _ c.requires _ _ _ c.is_unit.ensures c.if-not-is_unit.false _ c.find_controls-map.ensures _ c.in_map.ensures _ c.if-not-in_map.true c.refused-then-not-in_map.ensures

pub returns : goal.returns
returns c = gives-ready _ _ c.requires _ _ _ c.is_unit.ensures c.if-not-is_unit.false _ c.find_controls-map.ensures _ c.in_map.ensures c.if-not-in_map.false
