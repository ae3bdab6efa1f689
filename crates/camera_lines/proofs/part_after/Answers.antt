use Rattle.camera_lines.proofs.part_after.Goals as goal

pub returns : goal.returns
returns c = rw (← c.byte_of.ensures) c.part_by.ensures
