use Rattle.session_words.proofs.words.marks_of.Goals as goal

pub returns : goal.returns
returns c = rw (c.kind_word-k.ensures.0, c.one-closed.ensures.0, c.one-gap.ensures.0, c.phase_word-p.ensures.0, c.fault_word-why.ensures.0, c.one-still.ensures.0, c.one-fid.ensures.0, c.run_of-run.ensures)
