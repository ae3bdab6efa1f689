use Rattle.endings.proofs.Tell.{idle-none, unreadable-none, readable-told, header-inside}
use Rattle.endings.proofs.dropped_frame.Goals as goal

pub overflow_sub-t : goal.overflow_sub-t
overflow_sub-t c = search header-inside

pub returns-in-Idle : goal.returns-in-Idle
returns-in-Idle c = search idle-none

pub returns-in-Unreadable : goal.returns-in-Unreadable
returns-in-Unreadable c = search unreadable-none

pub returns-in-Readable : goal.returns-in-Readable
returns-in-Readable c = search readable-told
