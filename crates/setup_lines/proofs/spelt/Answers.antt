use Rattle.text.proofs.Puts.{then}
use Rattle.setup_lines.proofs.spelt.Goals as goal

pub returns : goal.returns
returns c = then c.put-named.ensures (then c.digits-told.ensures.put c.put.ensures)
