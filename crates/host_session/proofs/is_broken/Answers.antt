use Rattle.host_session.proofs.Ways.{is-rest, is-posted}
use Rattle.host_session.proofs.is_broken.Goals as goal

pub returns-then-rest_broken : goal.returns-then-rest_broken
returns-then-rest_broken c = is-rest c.args.rest c.args.m.now c.requires _ c.rest_broken.ensures c.if-rest_broken.true

pub returns : goal.returns
returns c = is-posted c.args.rest c.args.m.now c.requires _ c.rest_broken.ensures c.if-rest_broken.false _ c.posted_broken.ensures
