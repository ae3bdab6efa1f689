use Rattle.configuration.proofs.stream_verdict.Goals as goal

pub returns : goal.returns
returns c = rw c.read-a.ensures
