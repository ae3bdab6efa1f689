use Rattle.endings.proofs.Tell.{taken_refused, taken-told, handed-told}
use Rattle.endings.proofs.taken.Goals as goal

pub returns-in-Refused : goal.returns-in-Refused
returns-in-Refused c = search taken_refused

pub returns-in-Taken : goal.returns-in-Taken
returns-in-Taken c = search taken-told

pub returns-in-Handed : goal.returns-in-Handed
returns-in-Handed c = search handed-told
