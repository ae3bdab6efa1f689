use Rattle.endings.specs.Inner.{list_in}
use Rattle.replay.specs.Inner.{tell_said}
use Rattle.replay.proofs.Records.{lined-silent, lined-told}
use Rattle.replay.proofs.put_lines.Goals as goal

pub returns-then-is_silent : goal.returns-then-is_silent
returns-then-is_silent c = let both = lined-silent c.args.show c.args.c _ _
    (list_in (tell_said c.args.form c.args.before c.args.r.now c.args.said)) _ c.is_silent.ensures
    c.if-is_silent.true c.requires.1 in record { put = both.0; counted_value = both.1 }

pub returns : goal.returns
returns c = let both = lined-told c.args.show c.args.c _ _ _ (tell_said c.args.form c.args.before c.args.r.now c.args.said)
    _ _ _ c.told-ended.ensures (c.tell.ensures.put, c.tell.ensures.counted_value) in record { put = both.0; counted_value = both.1 }
