use Rattle.configuration.specs.Inner.{refused_by}
use Rattle.configuration.proofs.refused.Goals as goal

pub returns : goal.returns
unfolding refused_by
returns c = rw c.no_stream-no_stream.ensures
