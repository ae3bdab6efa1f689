use mathlib.Core.Path.{sym, ap, ◌∙◌}
use Rattle.host_session.specs.Calls.{Left}
use Rattle.host_session.proofs.Ways.{close-broken, close-laid}
use Rattle.host_session.proofs.palkodhen_session_close.Goals as goal

pub returns-in-Broken : goal.returns-in-Broken
returns-in-Broken c =
    let e = close-broken c.args.m.now c.args.w.now _ _ c.read.ensures c.in-Broken.is in
    record {
      value = c.refused.ensures ∙ ap (λ (x : Left). x.told) (sym e);
      m_after = ap (λ (x : Left). x.numbers) (sym e);
      w_after = ap (λ (x : Left). x.words) (sym e);
    }

pub returns-in-Laid : goal.returns-in-Laid
returns-in-Laid c =
    let e = close-laid c.args.m.now c.args.w.now _ _ _ c.read.ensures c.in-Laid.is c.close-x.ensures in
    record {
      value = c.closing.ensures ∙ ap (λ (x : Left). x.told) (sym e);
      m_after = ap (λ (x : Left). x.numbers) (sym e);
      w_after = c.write.ensures ∙ ap (λ (x : Left). x.words) (sym e);
    }
