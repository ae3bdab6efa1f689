use mathlib.Core.Path.{refl, sym, ap, ◌∙◌}
use Rattle.host_session.specs.Calls.{Said}
use Rattle.host_session.proofs.Ways.{lost-broken, lost-laid, lost-places}
use Rattle.host_session.proofs.lost.Goals as goal

pub returns-in-Broken : goal.returns-in-Broken
returns-in-Broken c =
    let e = lost-broken c.args.m.now c.args.w.now _ _ c.read.ensures c.in-Broken.is in
    record {
      value = ap (λ (x : Said). x.number) (sym e);
      m_after = ap (λ (x : Said). x.numbers) (sym e);
      w_after = ap (λ (x : Said). x.words) (sym e);
      m_len = c.requires;
    }

pub returns-in-Laid : goal.returns-in-Laid
returns-in-Laid c =
    let e = lost-laid c.args.m.now c.args.w.now _ _ _ c.read.ensures c.in-Laid.is c.lost-x.ensures in
    record {
      value = c.report.ensures ∙ ap (λ (x : Said). x.number) (sym e);
      m_after = ap (λ (x : Said). x.numbers) (sym e);
      w_after = c.write.ensures ∙ ap (λ (x : Said). x.words) (sym e);
      m_len = lost-places _ c.args.m.now _ _ c.requires c.lost-x.ensures refl;
    }
