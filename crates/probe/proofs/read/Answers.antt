use mathlib.Core.Path.{sym, ◌∙◌}
use Rattle.probe.proofs.Tests.{read_whole, read-wrong}
use Rattle.probe.proofs.RoundTrip.{writes-back}
use Rattle.probe.proofs.read.Goals as goal

pub returns-then-block-size_of : goal.returns-then-block-size_of
returns-then-block-size_of c = (read_whole _ _ _ (c.if-block-size_of.true ∙ c.size_of.ensures.0) c.fields_of-probe.ensures, writes-back _ _ _ (λ i. (c.type_inv.block i).fits) c.fields_of-probe.ensures)

pub returns : goal.returns
returns c = (read-wrong _ _ _ (λ e. c.if-block-size_of.false (e ∙ sym c.size_of.ensures.0)) c.no_fields-probe.ensures, λ e. absurd (c.if-block-size_of.false (e ∙ sym c.size_of.ensures.0)))
