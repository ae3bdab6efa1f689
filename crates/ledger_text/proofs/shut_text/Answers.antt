use Rattle.text.proofs.Puts.{then}
use Rattle.ledger_text.proofs.shut_text.Goals as goal

pub returns : goal.returns
returns c = then c.line-at.ensures.put c.put.ensures.put
