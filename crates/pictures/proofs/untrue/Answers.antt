use Rattle.pictures.proofs.Tests.{unasked, no-width, no-height, other-bits, by-room}
use Rattle.pictures.proofs.untrue.Goals as goal

pub returns-then-right-eq0 : goal.returns-then-right-eq0
returns-then-right-eq0 c = search unasked

pub returns-then-width-eq0 : goal.returns-then-width-eq0
returns-then-width-eq0 c = search no-width

pub returns-then-height-eq0 : goal.returns-then-height-eq0
returns-then-height-eq0 c = search no-height

pub returns-then-bits-right : goal.returns-then-bits-right
returns-then-bits-right c = search other-bits

pub returns : goal.returns
returns c = search by-room
