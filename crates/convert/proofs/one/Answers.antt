use Rattle.convert.proofs.Branches.{one-stopped, one-after, one-bad, one-good, good-room}
use Rattle.convert.proofs.one.Goals as goal

pub returns-then-c : goal.returns-then-c
returns-then-c c = let both = one-stopped c.args.c _ _ _ c.requires.0 c.requires.1 c.if-c.true in record { converter_value = both.0; at_bound = both.1 }

pub returns-then-c-2 : goal.returns-then-c-2
returns-then-c-2 c = let both = one-after c.args.c _ _ _ c.requires.0 c.requires.1 c.if-c.false _ _ _ c.if-c-2.true c.stop.ensures in record { converter_value = both.0; at_bound = both.1 }

pub returns-then-bad : goal.returns-then-bad
returns-then-bad c = let both = one-bad c.args.c _ _ _ c.requires.0 c.requires.1 c.if-c.false _ _ _ _ c.bad.ensures c.if-c-2.false c.if-bad.true c.stop-then-bad.ensures in record { converter_value = both.0; at_bound = both.1 }

pub on-requires : goal.on-requires
on-requires c = good-room _ _ _ c.requires.1 _ c.bad.ensures c.if-bad.false

pub returns : goal.returns
returns c = let both = one-good c.args.c _ _ _ c.requires.0 c.requires.1 c.if-c.false _ _ _ _ c.bad.ensures c.if-c-2.false c.if-bad.false c.on.ensures in record { converter_value = both.0; at_bound = both.1 }
