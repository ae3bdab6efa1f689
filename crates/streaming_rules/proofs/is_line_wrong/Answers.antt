use Rattle.streaming_rules.proofs.Ladder.{no_line, fixed-size, line-is}
use Rattle.streaming_rules.proofs.is_line_wrong.Goals as goal

pub returns-then-format-ne-FRAME_BASED : goal.returns-then-format-ne-FRAME_BASED
returns-then-format-ne-FRAME_BASED c = search no_line

pub returns-then-byte_at-ne1 : goal.returns-then-byte_at-ne1
returns-then-byte_at-ne1 c = search fixed-size

pub returns : goal.returns
returns c = search line-is
