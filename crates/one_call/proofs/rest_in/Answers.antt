use Rattle.one_call.proofs.rest_in.Goals as goal

pub returns : goal.returns
returns c = rw (c.phase_in-phase.ensures, c.stamp_in-last.ensures, c.fault_in-fault.ensures, c.stamp_in-stamp.ensures)
