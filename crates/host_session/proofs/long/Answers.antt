use mathlib.Core.Path.{refl, sym, ap, ◌∙◌}
use Rattle.session_words.specs.Told.{outcome_told}
use Rattle.session_words.specs.Words.{words_of}
use Rattle.session_rules.specs.declared.Taken.{Taken}
use Rattle.host_session.specs.Calls.{Left}
use Rattle.host_session.proofs.Ways.{broken, laid, take_places}
use Rattle.host_session.proofs.long.Goals as goal

pub returns-in-Broken : goal.returns-in-Broken
returns-in-Broken c =
    let e = broken c.args.m.now c.args.w.now c.args.buffer.now c.args.t.now _ _ c.read.ensures c.in-Broken.is in
    record {
      value = c.refused.ensures ∙ ap (λ (x : Left). x.told) (sym e);
      m_after = ap (λ (x : Left). x.numbers) (sym e);
      w_after = ap (λ (x : Left). x.words) (sym e);
      buffer_after = ap (λ (x : Left). x.buffer) (sym e);
      m_len = c.requires;
    }

pub returns-in-Laid : goal.returns-in-Laid
returns-in-Laid c =
    let e = laid c.args.m.now c.args.w.now c.args.buffer.now c.args.t.now _ _ c.read.ensures c.in-Laid.is in
    let f = c.take-x.ensures.m_after in
    record {
      value = c.outcome.ensures ∙ ap (λ (x : Taken). outcome_told x.outcome) f ∙ ap (λ (x : Left). x.told) (sym e);
      m_after = ap (λ (x : Taken). x.session.numbers) f ∙ ap (λ (x : Left). x.numbers) (sym e);
      w_after = c.write.ensures ∙ ap (λ (x : Taken). words_of x.session.rest) f ∙ ap (λ (x : Left). x.words) (sym e);
      buffer_after = c.take-x.ensures.buffer_after ∙ ap (λ (x : Left). x.buffer) (sym e);
      m_len = take_places _ c.args.m.now c.args.buffer.now c.args.t.now _ _ c.requires f refl;
    }
