use Rattle.text.proofs.Puts.{then}
use Rattle.ledger_text.proofs.refused.Goals as goal

pub returns : goal.returns
returns c = then c.put-named.ensures (then c.number-at.ensures.put c.line.ensures.put)
