use Rattle.frame_lines.proofs.Branches.{told_none, told-unshown, told-replayed, told-frame}
use Rattle.frame_lines.proofs.told.Goals as goal

pub returns-in-None : goal.returns-in-None
returns-in-None c = let both = told_none _ _ _ _ _ c.in-None.is c.requires in record { put = both.0; counted_value = both.1 }

pub returns-in-Nothing : goal.returns-in-Nothing
returns-in-Nothing c = let both = told-unshown _ _ _ _ _ _ c.in-Some.is c.in-Nothing.is c.requires in record { put = both.0; counted_value = both.1 }

pub returns-in-Replay : goal.returns-in-Replay
returns-in-Replay c = let both = told-replayed _ _ _ _ _ _ _ _ _ c.in-Some.is c.in-Replay.is (c.replayed.ensures.put, c.replayed.ensures.counted_value) in record { put = both.0; counted_value = both.1 }

pub returns-in-Frames : goal.returns-in-Frames
returns-in-Frames c = let both = told-frame _ _ _ _ _ _ _ _ _ c.in-Some.is c.in-Frames.is c.next.ensures
    c.put_frame.ensures.put c.put_frame.ensures.upper_bound in record { put = both.0; counted_value = both.1 }
