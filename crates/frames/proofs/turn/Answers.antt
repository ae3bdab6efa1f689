use Rattle.frames.proofs.Turns.{turn-fresh, turn_on, turn-ends, turn-stray, turn-past, begun-room, under-room}
use Rattle.frames.proofs.turn.Goals as goal

pub join-requires : goal.join-requires
join-requires c = begun-room _ c.args.track.gap _ _ _ c.begun.ensures c.requires.1

pub join-requires-then-r-h : goal.join-requires-then-r-h
join-requires-then-r-h c = under-room _ _ _ c.in-Under.is c.requires.0
    c.requires.1

pub returns-then-r-h : goal.returns-then-r-h
returns-then-r-h c = search turn_on

pub join-requires-in-Under : goal.join-requires-in-Under
join-requires-in-Under c = begun-room _ c.args.track.gap _ _ _ c.begun-in-Under.ensures
    c.requires.1

pub returns-then-fid-h : goal.returns-then-fid-h
returns-then-fid-h c = search turn-stray

pub join-requires-in-Past : goal.join-requires-in-Past
join-requires-in-Past c = begun-room _ c.args.track.gap _ _ _ c.begun-in-Past.ensures
    c.requires.1

pub returns-in-Fresh : goal.returns-in-Fresh
returns-in-Fresh c = search turn-fresh

pub returns-else-r-h : goal.returns-else-r-h
returns-else-r-h c = search turn-ends

pub returns-else-fid-h : goal.returns-else-fid-h
returns-else-fid-h c = search turn-past
