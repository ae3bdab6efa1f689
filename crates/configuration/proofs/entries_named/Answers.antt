use mathlib.Core.Path.{◌∙◌}
use native.Mathlib.Omega.{arith}
use Rattle.rules.proofs.Places.{seek}
use Rattle.configuration.proofs.Reading.{an-entry, entry-on, no-entry}
use Rattle.configuration.proofs.entries_named.Goals as goal

pub loop-j-init : goal.loop-j-init
loop-j-init c = seek _ _

pub returns-then-place_of-count : goal.returns-then-place_of-count
returns-then-place_of-count c = an-entry _ _ _ _ (c.wide-n.ensures.0 ∙ c.byte_at.ensures) _ c.loop-j.invariant (omega arith) _ _
    c.byte_at-number.ensures c.place_of.ensures c.if-place_of-count.true

pub loop-j-preserved : goal.loop-j-preserved
loop-j-preserved c = entry-on c.args.block.now c.args.streams _ _ (c.wide-n.ensures.0 ∙ c.byte_at.ensures) _ c.loop-j.invariant
    (omega arith) _ _ c.byte_at-number.ensures c.place_of.ensures c.if-place_of-count.false

pub returns : goal.returns
returns c = no-entry _ _ _ _ (c.wide-n.ensures.0 ∙ c.byte_at.ensures) _ c.loop-j.invariant (omega arith)
