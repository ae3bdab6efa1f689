use borrow.Author.Tests.{eq-eqb, ne_eqb}
use Rattle.streaming_rules.specs.Rules.{kind_rows}
use Rattle.streaming_rules.proofs.header_rule.Goals as goal

pub returns-then-endpoint-ne1 : goal.returns-then-endpoint-ne1
unfolding kind_rows
returns-then-endpoint-ne1 c = rw (ne_eqb _ 1 c.if-endpoint-ne1.true)

pub returns-then-a : goal.returns-then-a
unfolding kind_rows
returns-then-a c = rw (eq-eqb _ 1 c.if-endpoint-ne1.false, c.if-a.true)

pub returns : goal.returns
unfolding kind_rows
returns c = rw (eq-eqb _ 1 c.if-endpoint-ne1.false, c.if-a.false)
