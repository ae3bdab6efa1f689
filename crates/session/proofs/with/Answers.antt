use Rattle.session.proofs.with.Goals as goal

pub returns : goal.returns
returns c = simp c.new-l.ensures
