use borrow.Author.Rules.{rules}
use Rattle.text.proofs.Eight.{laid}
use Rattle.probe_lines.proofs.layout.Goals as goal

pub returns : goal.returns
returns c = record { put = search (laid, rules); upper_bound = search rules }
