use Rattle.alternate_settings.proofs.Going.{too_few, the-first, the-new, the-old}
use Rattle.alternate_settings.proofs.better.Goals as goal

pub returns-then-x-payload : goal.returns-then-x-payload
returns-then-x-payload c = search too_few

pub returns-in-None : goal.returns-in-None
returns-in-None c = search the-first

pub returns-then-is_better : goal.returns-then-is_better
returns-then-is_better c = search the-new

pub returns-else-is_better : goal.returns-else-is_better
returns-else-is_better c = search the-old
