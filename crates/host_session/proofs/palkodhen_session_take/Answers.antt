use mathlib.Core.Path.{sym, ap, ◌∙◌}
use Rattle.host_session.specs.Calls.{Left}
use Rattle.host_session.proofs.palkodhen_session_take.Goals as goal

pub returns-then-tries : goal.returns-then-tries
returns-then-tries c =
    let e = c.tries.ensures.yes c.if-tries.true in
    record {
      value = c.plain.ensures ∙ ap (λ (x : Left). x.told) (sym e);
      m_after = ap (λ (x : Left). x.numbers) (sym e);
      w_after = ap (λ (x : Left). x.words) (sym e);
      buffer_after = ap (λ (x : Left). x.buffer) (sym e);
    }

pub long-requires : goal.long-requires
long-requires c = c.tries.ensures.places

pub returns : goal.returns
returns c =
    let n = c.tries.ensures.no c.if-tries.false in
    let l = rw (n.0, n.1.0, n.1.1) at c.long.ensures in
    record {
      value = l.value;
      m_after = l.m_after;
      w_after = l.w_after;
      buffer_after = l.buffer_after;
    }
