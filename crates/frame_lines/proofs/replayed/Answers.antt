use Rattle.frame_lines.proofs.Branches.{delivered, still, dropped}
use Rattle.frame_lines.proofs.replayed.Goals as goal

pub returns-in-Delivered : goal.returns-in-Delivered
returns-in-Delivered c = let both = delivered _ _ _ _ _ _ _ _ _ c.in-Delivered.is c.step_from.ensures c.next.ensures c.moved.ensures
    c.put_replay.ensures.put c.put_replay.ensures.upper_bound in record { put = both.0; counted_value = both.1 }

pub returns-in-Still : goal.returns-in-Still
returns-in-Still c = let both = still _ _ _ _ _ _ _ c.in-Still.is c.next-in-Still.ensures c.put_replay-in-Still.ensures.put
    c.put_replay-in-Still.ensures.upper_bound in record { put = both.0; counted_value = both.1 }

pub returns-in-Dropped : goal.returns-in-Dropped
returns-in-Dropped c = let both = dropped _ _ _ _ _ c.in-Dropped.is c.requires in record { put = both.0; counted_value = both.1 }
