use Rattle.streaming_rules.proofs.Ladder.{not-uncompressed, untrue-is}
use Rattle.streaming_rules.proofs.is_untrue.Goals as goal

pub returns-then-format-ne-UNCOMPRESSED : goal.returns-then-format-ne-UNCOMPRESSED
returns-then-format-ne-UNCOMPRESSED c = search not-uncompressed

pub returns : goal.returns
returns c = search untrue-is
