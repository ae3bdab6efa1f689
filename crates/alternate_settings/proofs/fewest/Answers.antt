use Rattle.interfaces.proofs.Searching.{steps-in, next-falls}
use Rattle.alternate_settings.proofs.Going.{sifting-starts, sifting-ends, sifting-on}
use Rattle.alternate_settings.proofs.fewest.Goals as goal

pub loop-at-init : goal.loop-at-init
loop-at-init c = search sifting-starts

pub next-at-requires-in-loop-at : goal.next-at-requires-in-loop-at
next-at-requires-in-loop-at c = search steps-in

pub loop-at-smaller : goal.loop-at-smaller
loop-at-smaller c = search next-falls

pub loop-at-preserved : goal.loop-at-preserved
loop-at-preserved c = search sifting-on

pub returns : goal.returns
returns c = search sifting-ends
