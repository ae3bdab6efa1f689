use Rattle.places.proofs.Branches.{written_none, written_all}
use Rattle.places.proofs.write.Goals as goal

pub returns-then-r-ne-SIZE : goal.returns-then-r-ne-SIZE
returns-then-r-ne-SIZE c = let both = written_none _ _ c.if-r-ne-SIZE.true in record { value = both.0; r_after = both.1 }

pub returns : goal.returns
returns c = let both = written_all _ _ _ c.if-r-ne-SIZE.false c.lay.ensures in record { value = both.0; r_after = both.1 }
