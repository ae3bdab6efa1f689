use Rattle.ledger_text.proofs.Ends.{ends-unsaid, ends-said}
use Rattle.ledger_text.proofs.end.Goals as goal

pub returns-then-is_unsaid : goal.returns-then-is_unsaid
returns-then-is_unsaid c = let both = ends-unsaid c.args.show c.args.printed.state c.args.printed.ledger.numbers c.args.buf.now _ c.is_unsaid.ensures c.if-is_unsaid.true in record { value = both.0; buf_after = both.1.0; prefix_len = both.1.1 }

pub returns : goal.returns
returns c = let both = ends-said c.args.show c.args.printed.state c.args.printed.ledger.numbers c.args.buf.now _ c.is_unsaid.ensures _ _ c.if-is_unsaid.false (c.write.ensures.value, (c.write.ensures.buf_after, c.write.ensures.prefix_len)) in record { value = both.0; buf_after = both.1.0; prefix_len = both.1.1 }
