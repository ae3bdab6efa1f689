use Rattle.frames.proofs.fate_of.Goals as goal

pub returns-then-eof : goal.returns-then-eof
returns-then-eof c = simp (c.complete.ensures, c.if-eof.true)
