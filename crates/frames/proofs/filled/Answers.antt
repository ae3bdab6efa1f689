use Rattle.frames.proofs.filled.Goals as goal

pub returns-in-None : goal.returns-in-None
returns-in-None c = simp c.in-None.is
