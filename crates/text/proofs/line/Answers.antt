use borrow.Author.Rules.{rules}
use Rattle.text.proofs.Texts.{lined}
use Rattle.text.proofs.line.Goals as goal

pub returns : goal.returns
returns c =
    let ns = c.args.ns.now in
    record { put = lined ns c.put-named.ensures c.numbers-counted.ensures.put c.put.ensures; upper_bound = search rules }
