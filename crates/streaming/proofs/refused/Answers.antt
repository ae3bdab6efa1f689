use Rattle.streaming.specs.Answer.{refused_by}
use Rattle.streaming.proofs.refused.Goals as goal

pub returns : goal.returns
unfolding refused_by
returns c = rw (c.no_format-no_format.ensures, c.no_frame-no_frame.ensures)
