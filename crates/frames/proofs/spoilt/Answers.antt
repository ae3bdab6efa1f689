use Rattle.session_rules.specs.Turns.{spoilt_of}
use Rattle.frames.proofs.spoilt.Goals as goal

pub returns-in-Fresh : goal.returns-in-Fresh
unfolding spoilt_of
returns-in-Fresh c = simp c.in-Fresh.is

pub returns-in-Past : goal.returns-in-Past
unfolding spoilt_of
returns-in-Past c = simp c.in-Past.is

pub returns-in-Under : goal.returns-in-Under
unfolding spoilt_of
returns-in-Under c = simp (c.first_of-fault.ensures, c.in-Under.is)
