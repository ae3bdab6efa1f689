use mathlib.Core.Path.{sym, ap, ◌∙◌}
use Rattle.short_way.proofs.Found.{is_ok-none}
use Rattle.session.specs.declared.RestTaken.{RestTaken}
use Rattle.session.specs.Inner.{taken_with}
use borrow.Author.Rules.{rules}
use Rattle.session.proofs.take_for.Goals as goal

pub go_on-requires : goal.go_on-requires
go_on-requires c = record {
  places = search rules;
  free = is_ok-none _ _ _ c.refusal.ensures c.is_ok.ensures.value c.if-is_ok.true;
  under = c.in-Under.is;
  on = sym c.goes_on.ensures ∙ c.if-goes_on.true;
}

pub returns-then-is_ok : goal.returns-then-is_ok
returns-then-is_ok c =
    let x = c.go_on in
    record { m_after = ap (λ (z : RestTaken). taken_with z x.new.m) c.kept.ensures ∙ x.ensures.m_after; written = x.ensures.written }
