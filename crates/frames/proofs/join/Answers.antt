use Rattle.frames.proofs.join.Goals as goal

pub returns : goal.returns
returns c = simp (
  c.phase_of-phase.ensures,
  c.fate_of-fate.ensures,
  c.ends-eof.ensures,
  c.written-len.ensures,
  c.joined-next.ensures,
)
