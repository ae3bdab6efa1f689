use Rattle.streaming.proofs.Late.{late-36, late-37, late-38, late-none}
use Rattle.streaming.proofs.late_verdict.Goals as goal

pub returns-then-i-n : goal.returns-then-i-n
returns-then-i-n c = late-36 _ _ _ _ _ c.first_count-i.ensures c.if-i-n.true

pub returns-then-j-n : goal.returns-then-j-n
returns-then-j-n c = late-37 _ _ _ _ _ c.first_count-i.ensures c.if-i-n.false _ c.first_default-j.ensures
    c.if-j-n.true

pub returns-then-n-wide : goal.returns-then-n-wide
returns-then-n-wide c = late-none _ _ _ _ _ c.first_count-i.ensures c.if-i-n.false _ c.first_default-j.ensures
    c.if-j-n.false _ c.wide.ensures.0 c.if-n-wide.true

pub returns : goal.returns
returns c = late-38 _ _ _ _ _ c.first_count-i.ensures c.if-i-n.false _ c.first_default-j.ensures
    c.if-j-n.false _ c.wide.ensures.0 c.if-n-wide.false
