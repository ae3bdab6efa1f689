use mathlib.Core.Path.{ap, ◌∙◌}
use Rattle.session_rules.specs.declared.Taken.{Taken}
use Rattle.one_call.specs.Words.{answered_in}
use Rattle.one_call.proofs.palkodhen_call.Goals as goal

pub returns : goal.returns
returns c =
    let x = c.take-taken in
    let same = rw c.rest_in-rest.ensures at x.ensures.m_after in
    record {
      w_after = c.set.ensures ∙ ap answered_in same;
      m_after = ap (λ (y : Taken). y.session.numbers) same;
      buffer_after = rw c.rest_in-rest.ensures at x.ensures.buffer_after;
    }
