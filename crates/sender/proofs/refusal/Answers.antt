use Rattle.sender.proofs.Writing.{payload-sound}
use mathlib.Core.Path.{sym, ◌∙◌}
use Rattle.rules.proofs.Kept.{kept_rungs}
use Rattle.sender.proofs.refusal.Goals as goal

pub returns-then-frame_size_broken : goal.returns-then-frame_size_broken
returns-then-frame_size_broken c = search kept_rungs depth 12

pub returns-then-payload_broken : goal.returns-then-payload_broken
returns-then-payload_broken c = search kept_rungs depth 12

pub room_short-requires : goal.room_short-requires
room_short-requires c = payload-sound _ _ (sym c.payload_broken.ensures ∙ c.if-payload_broken.false)

pub returns-then-room_short : goal.returns-then-room_short
returns-then-room_short c = search kept_rungs depth 12

pub returns : goal.returns
returns c = search kept_rungs depth 12
