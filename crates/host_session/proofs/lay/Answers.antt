use Rattle.host_session.proofs.Laying.{laid}
use Rattle.host_session.proofs.lay.Goals as goal

pub returns : goal.returns
returns c = laid c.args.numbers.now _ c.args.to.now _ c.copy_from_slice.ensures.after c.told-numbers c.told-to (c.fill.ensures.after (λ y e. e))
