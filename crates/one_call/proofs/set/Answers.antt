use Rattle.one_call.proofs.set.Goals as goal

pub returns : goal.returns
returns c = rw (c.length_of.ensures, c.told.ensures, c.fault_word.ensures, c.one-4.ensures, c.stamp_word-2.ensures, c.one-3.ensures, c.phase_word.ensures, c.stamp_word.ensures, c.one-2.ensures, c.one.ensures, c.run_of-run.ensures)
