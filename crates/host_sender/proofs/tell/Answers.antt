use Rattle.host_sender.proofs.Steps.{refused-told, done-told, wrote-told}
use Rattle.host_sender.proofs.tell.Goals as goal

pub returns-in-Refused : goal.returns-in-Refused
returns-in-Refused c = search refused-told

pub returns-in-Done : goal.returns-in-Done
returns-in-Done c = search done-told

pub returns-in-Wrote : goal.returns-in-Wrote
returns-in-Wrote c = search wrote-told
