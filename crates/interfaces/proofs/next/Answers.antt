use Rattle.interfaces.proofs.Searching.{seek-first, seek-here, seek-on, seek-none, falls}
use Rattle.interfaces.proofs.next.Goals as goal

pub loop-i-init : goal.loop-i-init
loop-i-init c = search seek-first

pub returns-then-is_sought : goal.returns-then-is_sought
returns-then-is_sought c = search seek-here

pub loop-i-smaller : goal.loop-i-smaller
loop-i-smaller c = search falls

pub loop-i-preserved : goal.loop-i-preserved
loop-i-preserved c = search seek-on

pub returns : goal.returns
returns c = search seek-none
