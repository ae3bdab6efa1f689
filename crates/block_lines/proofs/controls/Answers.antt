use Rattle.text.proofs.Puts.{then}
use Rattle.block_lines.proofs.controls.Goals as goal

pub returns : goal.returns
returns c = then c.put-named.ensures (then c.numbers-counted.ensures.put c.put.ensures)
