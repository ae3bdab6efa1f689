use mathlib.Core.Path.{refl}
use Rattle.rules.proofs.Kept.{ok-kept}
use Rattle.streaming_rules.proofs.Ladder.{kind-none}
use Rattle.streaming_descriptors.proofs.Subtypes.{header-room, format-room, frame-room}
use Rattle.streaming_rules.proofs.kind_rule.Goals as goal

pub header_rule-requires : goal.header_rule-requires
header_rule-requires c = header-room _ _ _ c.requires.at_value.1 (rw c.in-Header.is at c.requires.at_value.0)

pub format_rule-requires : goal.format_rule-requires
format_rule-requires c = (format-room _ _ _ c.requires.at_value.1 _ (rw c.in-Formats.is at c.requires.at_value.0), c.requires.formats_le_formats_most)

pub frame_rule-requires : goal.frame_rule-requires
frame_rule-requires c = frame-room _ _ _ c.requires.at_value.1 _ (rw c.in-Frames.is at c.requires.at_value.0)

pub returns-in-Header : goal.returns-in-Header
returns-in-Header c = rw c.in-Header.is c.header_rule.ensures

pub returns-in-Formats : goal.returns-in-Formats
returns-in-Formats c = rw c.in-Formats.is c.format_rule.ensures

pub returns-in-Frames : goal.returns-in-Frames
returns-in-Frames c = rw c.in-Frames.is c.frame_rule.ensures

pub returns-in-Unread : goal.returns-in-Unread
returns-in-Unread c = rw c.in-Unread.is (ok-kept _ (kind-none _ _ _ _ refl refl refl))

pub returns-in-Other : goal.returns-in-Other
returns-in-Other c = rw c.in-Other.is (ok-kept _ (kind-none _ _ _ _ refl refl refl))
