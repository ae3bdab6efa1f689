use mathlib.Core.Path.{sym, ap, ◌∙◌}
use Rattle.host_session.specs.Calls.{Said}
use Rattle.host_session.proofs.Ways.{opened}
use Rattle.host_session.proofs.open_kind.Goals as goal

pub returns : goal.returns
returns c =
    let e = opened c.args.o c.args.room _ c.open_for-x.ensures in
    record {
      value = c.start.ensures ∙ ap (λ (x : Said). x.number) (sym e);
      m_after = ap (λ (x : Said). x.numbers) (sym e);
      w_after = c.write.ensures ∙ ap (λ (x : Said). x.words) (sym e);
    }
