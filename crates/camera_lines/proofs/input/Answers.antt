use Rattle.camera_lines.proofs.input.Goals as goal

pub returns : goal.returns
returns c = rw (← c.word_at.ensures) c.input_by.ensures
