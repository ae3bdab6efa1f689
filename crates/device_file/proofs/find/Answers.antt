use Rattle.device_file.proofs.Within.{at-device, at_other, long}
use Rattle.device_file.proofs.find.Goals as goal

pub overflow_sub-file : goal.overflow_sub-file
overflow_sub-file c = search long

pub returns-then-is_device : goal.returns-then-is_device
returns-then-is_device c = let both = at-device _ _ _ _ c.is_device.ensures c.if-is_device.true c.total.ensures c.first.ensures in record { value = both.0; length_in_bounds = both.1 }

pub returns : goal.returns
returns c = let both = at_other _ _ c.is_device.ensures c.if-is_device.false in record { value = both.0; length_in_bounds = both.1 }
