use Rattle.frames.proofs.Turns.{hands-fresh, hands-past, hands-eof, hands_on, hands-ready}
use Rattle.frames.proofs.hands.Goals as goal

pub returns-then-by_eof : goal.returns-then-by_eof
returns-then-by_eof c = search hands-eof

pub returns-then-r-h : goal.returns-then-r-h
returns-then-r-h c = search hands-ready

pub returns-in-Fresh : goal.returns-in-Fresh
returns-in-Fresh c = search hands-fresh

pub returns-in-Past : goal.returns-in-Past
returns-in-Past c = search hands-past

pub returns-else-r-h : goal.returns-else-r-h
returns-else-r-h c = search hands_on
