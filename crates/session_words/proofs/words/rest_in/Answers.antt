use Rattle.session_words.specs.Reading.{rest_in}
use Rattle.session_words.proofs.words.rest_in.Goals as goal

pub returns : goal.returns
unfolding rest_in
returns c = rw (c.phase_in-phase.ensures, c.stamp_in-last.ensures, c.layer_in-layer.ensures, c.stamp_in-stamp.ensures, c.fault_in-fault.ensures, c.kind_in-kind.ensures)
