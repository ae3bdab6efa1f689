use Rattle.camera_lines.proofs.descriptor.Goals as goal

pub returns : goal.returns
returns c = rw (← c.byte_of.ensures) c.by_type.ensures
