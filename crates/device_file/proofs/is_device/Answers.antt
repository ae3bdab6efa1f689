use Rattle.device_file.specs.Place.{is_device}
use Rattle.rules.specs.IfElse.{if_elses}
use Rattle.device_file.proofs.is_device.Goals as goal

pub returns-then-file-lt-DEVICE : goal.returns-then-file-lt-DEVICE
unfolding is_device
returns-then-file-lt-DEVICE c = search if_elses depth 8

pub returns-then-file-ne-DEVICE_LENGTH : goal.returns-then-file-ne-DEVICE_LENGTH
unfolding is_device
returns-then-file-ne-DEVICE_LENGTH c = search if_elses depth 8

pub returns : goal.returns
unfolding is_device
returns c = search if_elses depth 8
