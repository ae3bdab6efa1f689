use Rattle.rules.proofs.Kept.{kept_rungs}
use Rattle.control_rules.specs.Rules.{entity_rows}
use Rattle.control_rules.proofs.Ladder.{entity-room, no-entity, and_is}
use Rattle.control_rules.proofs.entity_rule.Goals as goal

pub returns-then-not-entity : goal.returns-then-not-entity
returns-then-not-entity c = search no-entity

pub bounds-s-at : goal.bounds-s-at
bounds-s-at c = search entity-room

pub returns-then-id-eq0 : goal.returns-then-id-eq0
unfolding entity_rows
returns-then-id-eq0 c = search (kept_rungs, and_is) depth 9

pub returns-then-has : goal.returns-then-has
unfolding entity_rows
returns-then-has c = search (kept_rungs, and_is) depth 9

pub returns-then-count-ge-ENTITIES_MOST : goal.returns-then-count-ge-ENTITIES_MOST
unfolding entity_rows
returns-then-count-ge-ENTITIES_MOST c = search (kept_rungs, and_is) depth 9

pub returns-then-pins_right : goal.returns-then-pins_right
unfolding entity_rows
returns-then-pins_right c = search (kept_rungs, and_is) depth 9

pub returns : goal.returns
unfolding entity_rows
returns c = search (kept_rungs, and_is) depth 9
