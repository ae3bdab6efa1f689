use Rattle.frames.proofs.Turns.{complete-empty, complete-still, complete-bad, complete-whole}
use Rattle.frames.proofs.complete.Goals as goal

pub returns-then-len-eq0 : goal.returns-then-len-eq0
returns-then-len-eq0 c = search complete-empty

pub returns-then-still : goal.returns-then-still
returns-then-still c = search complete-still

pub returns-in-Some : goal.returns-in-Some
returns-in-Some c = search complete-bad

pub returns-else-still : goal.returns-else-still
returns-else-still c = search complete-whole
