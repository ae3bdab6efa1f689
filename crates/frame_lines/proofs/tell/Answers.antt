use Rattle.endings.specs.Inner.{told_in}
use Rattle.frame_lines.proofs.Branches.{both}
use Rattle.frame_lines.proofs.tell.Goals as goal

pub returns : goal.returns
returns c =
    let a = c.args in
    let both = both a.show a.c _ _ (told_in a.e.first) (told_in a.e.second) _ _ _ _ _ _ (c.told-one.ensures.put, c.told-one.ensures.counted_value) (c.told.ensures.put, c.told.ensures.counted_value) in record { put = both.0; counted_value = both.1 }
