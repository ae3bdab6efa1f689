use Rattle.ledger_record.proofs.Branches.{shows}
use Rattle.ledger_record.proofs.show.Goals as goal

pub returns : goal.returns
returns c = search shows
