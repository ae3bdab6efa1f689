use borrow.Author.Rules.{rules}
use Rattle.text.proofs.Puts.{then}
use Rattle.block_lines.proofs.refused.Goals as goal

pub returns : goal.returns
returns c = record { put = then c.put-named.ensures (then c.number-numbered.ensures.put c.line.ensures.put); upper_bound = search rules }
