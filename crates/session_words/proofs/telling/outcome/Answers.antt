use Rattle.session_words.proofs.telling.outcome.Goals as goal

pub returns-in-Refused : goal.returns-in-Refused
returns-in-Refused c = rw c.in-Refused.is c.refused.ensures

pub returns-in-Taken : goal.returns-in-Taken
returns-in-Taken c = rw (c.in-Taken.is, ← c.ended_word.ensures) c.fate_told.ensures

pub returns-in-Handed : goal.returns-in-Handed
returns-in-Handed c = rw (c.in-Handed.is, ← c.handed_fate.ensures) c.frame.ensures
