use Rattle.trace_arguments.specs.Words.{Reads.sizes, Reads.short, Reads.stamp, Reads.unknown}
use Rattle.trace_arguments.proofs.Words.{unlike}
use Rattle.trace_arguments.proofs.option.Goals as goal

pub returns-then-same : goal.returns-then-same
returns-then-same c = sizes (c.same.ensures.0 c.if-same.true)

pub returns-then-same-2 : goal.returns-then-same-2
returns-then-same-2 c = short (c.same-2.ensures.0 c.if-same-2.true)

pub returns-then-same-3 : goal.returns-then-same-3
returns-then-same-3 c = stamp (c.same-3.ensures.0 c.if-same-3.true)

pub returns : goal.returns
returns c = unknown c.requires
    (unlike _ _ _ c.if-same.false c.same.ensures.1)
    (unlike _ _ _ c.if-same-2.false c.same-2.ensures.1)
    (unlike _ _ _ c.if-same-3.false c.same-3.ensures.1)
