use mathlib.Core.Path.{refl}
use borrow.Author.Rules.{rules}
use Rattle.session.proofs.take.Goals as goal

pub take_for-requires : goal.take_for-requires
take_for-requires c = (search rules, λ h. refl)

pub returns : goal.returns
returns c =
    let x = c.take_for.ensures in
    record { m_after = x.m_after; buffer_after = x.written refl }
