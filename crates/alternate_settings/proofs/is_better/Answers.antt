use Rattle.alternate_settings.proofs.Going.{by_number, by_bytes}
use Rattle.alternate_settings.proofs.is_better.Goals as goal

pub returns-then-x-y : goal.returns-then-x-y
returns-then-x-y c = search by_number

pub returns : goal.returns
returns c = search by_bytes
