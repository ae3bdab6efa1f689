use Rattle.frames.proofs.phase_of.Goals as goal

pub returns-then-eof : goal.returns-then-eof
returns-then-eof c = simp c.if-eof.true

pub returns-else-eof : goal.returns-else-eof
returns-else-eof c = simp c.if-eof.false
