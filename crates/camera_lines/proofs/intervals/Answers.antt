use Rattle.camera_lines.proofs.intervals.Goals as goal

pub returns : goal.returns
returns c = rw (← c.byte_of.ensures) c.intervals_by.ensures
