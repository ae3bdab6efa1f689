use mathlib.Core.Path.{sym, ap, ◌∙◌}
use Rattle.session_rules.specs.declared.Ledger.{Ledger}
use Rattle.host_session.specs.Calls.{Shown, places_of}
use Rattle.host_session.proofs.Ways.{ledger-broken, ledger-50, ledger-shown}
use Rattle.host_session.proofs.palkodhen_session_ledger.Goals as goal

pub returns-then-is_broken : goal.returns-then-is_broken
returns-then-is_broken c =
    let e = ledger-50 c.args.m.now c.args.w.now c.args.to.now _ _ _ c.read.ensures c.in-Laid.is c.is_broken.ensures c.if-is_broken.true in
    record { value = ap (λ (x : Shown). x.number) (sym e); to_after = ap (λ (x : Shown). x.places) (sym e) }

pub returns-in-Broken : goal.returns-in-Broken
returns-in-Broken c =
    let e = ledger-broken c.args.m.now c.args.w.now c.args.to.now _ _ c.read.ensures c.in-Broken.is in
    record { value = ap (λ (x : Shown). x.number) (sym e); to_after = ap (λ (x : Shown). x.places) (sym e) }

pub returns-else-is_broken : goal.returns-else-is_broken
returns-else-is_broken c =
    let e = ledger-shown c.args.m.now c.args.w.now c.args.to.now _ _ _ c.read.ensures c.in-Laid.is c.is_broken.ensures c.if-is_broken.false in
    record { value = ap (λ (x : Shown). x.number) (sym e); to_after = c.lay.ensures ∙ ap (λ (l : Ledger). places_of l.numbers) c.ledger-l.ensures ∙ ap (λ (x : Shown). x.places) (sym e) }
