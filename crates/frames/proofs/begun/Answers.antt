use Rattle.frames.proofs.begun.Goals as goal

pub returns : goal.returns
returns c = simp c.first_of-fault.ensures
