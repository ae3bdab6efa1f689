use Rattle.rules.proofs.Kept.{kept_rungs}
use Rattle.session_rules.specs.Refusals.{opening_rows}
use Rattle.refusals.proofs.opening_refusal.Goals as goal

pub returns-then-frame_size_broken : goal.returns-then-frame_size_broken
unfolding opening_rows
returns-then-frame_size_broken c = search kept_rungs depth 12

pub returns-then-payload_size_broken : goal.returns-then-payload_size_broken
unfolding opening_rows
returns-then-payload_size_broken c = search kept_rungs depth 12

pub returns-then-room-o : goal.returns-then-room-o
unfolding opening_rows
returns-then-room-o c = search kept_rungs depth 12

pub returns : goal.returns
unfolding opening_rows
returns c = search kept_rungs depth 12
