use Rattle.camera_lines.proofs.type_line.Goals as goal

pub returns : goal.returns
returns c = record { put = rw (← c.word_at-number.ensures) c.terminal.ensures.put; upper_bound = c.terminal.ensures.upper_bound }
