use Rattle.interfaces.proofs.Searching.{steps-in, next-falls}
use Rattle.alternate_settings.proofs.Going.{kth-starts, kth-ends, kth-here, kth-on}
use Rattle.alternate_settings.proofs.kth.Goals as goal

pub loop-at-init : goal.loop-at-init
loop-at-init c = search kth-starts

pub returns-then-left-eq0 : goal.returns-then-left-eq0
returns-then-left-eq0 c = search kth-here

pub next-at-requires-in-loop-at : goal.next-at-requires-in-loop-at
next-at-requires-in-loop-at c = search steps-in

pub loop-at-smaller : goal.loop-at-smaller
loop-at-smaller c = search next-falls

pub loop-at-preserved : goal.loop-at-preserved
loop-at-preserved c = search kth-on

pub returns : goal.returns
returns c = search kth-ends
