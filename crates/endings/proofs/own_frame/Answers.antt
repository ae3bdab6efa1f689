use Rattle.endings.proofs.Tell.{fate-delivered, fate-still, fate-dropped}
use Rattle.endings.proofs.own_frame.Goals as goal

pub returns-in-Delivered : goal.returns-in-Delivered
returns-in-Delivered c = search fate-delivered

pub returns-in-Still : goal.returns-in-Still
returns-in-Still c = search fate-still

pub returns-in-Dropped : goal.returns-in-Dropped
returns-in-Dropped c = search fate-dropped
