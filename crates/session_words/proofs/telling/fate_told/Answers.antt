use Rattle.session_words.proofs.telling.fate_told.Goals as goal

pub returns-in-Idle : goal.returns-in-Idle
returns-in-Idle c = rw c.in-Idle.is c.plain.ensures

pub returns-in-Kept : goal.returns-in-Kept
returns-in-Kept c = rw c.in-Kept.is c.plain-in-Kept.ensures

pub returns-in-Stray : goal.returns-in-Stray
returns-in-Stray c = rw c.in-Stray.is c.plain-in-Stray.ensures

pub returns-in-Delivered : goal.returns-in-Delivered
returns-in-Delivered c = rw c.in-Delivered.is c.frame.ensures

pub returns-in-Still : goal.returns-in-Still
returns-in-Still c = rw c.in-Still.is c.frame-in-Still.ensures

pub returns-in-Dropped : goal.returns-in-Dropped
returns-in-Dropped c = rw (c.in-Dropped.is, ← c.reason_word.ensures.0) c.plain-in-Dropped.ensures

pub returns-in-Unreadable : goal.returns-in-Unreadable
returns-in-Unreadable c = rw c.in-Unreadable.is c.plain-in-Unreadable.ensures
