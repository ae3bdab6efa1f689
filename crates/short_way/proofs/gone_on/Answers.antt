use Prim.Native.Nat.{ℕ}
use mathlib.Core.Path.{ap, ◌∙◌}
use native.Mathlib.Omega.{arith}
use Rattle.session_rules.specs.declared.Account.{Account}
use Rattle.ledger.specs.Inner.{entered_in}
use Rattle.ledger.proofs.Rooms.{room-up, entering}
use Rattle.short_way.specs.Inner.{whole_of}
use Rattle.short_way.proofs.Kept.{fits, kept}
use borrow.Author.Rules.{rules}
use Rattle.short_way.proofs.gone_on.Goals as goal

pub bounds-t-0 : goal.bounds-t-0
bounds-t-0 c = let f = fits (whole_of c.args.rest c.args.m.now) c.args.r c.args.room c.args.t.now c.requires (search rules) in
    omega (arith, f.two)

pub went_on-run-requires : goal.went_on-run-requires
went_on-run-requires c = let f = fits (whole_of c.args.rest c.args.m.now) c.args.r c.args.room c.args.t.now c.requires (search rules) in
    (c.requires.on, f.bytes)

pub entered-requires : goal.entered-requires
entered-requires c = let f = fits (whole_of c.args.rest c.args.m.now) c.args.r c.args.room c.args.t.now c.requires (search rules) in
    entering _ _ _ Account.Headers _ (room-up _ _ _ f.spare (omega arith)) (λ e. omega arith) (omega (arith, c.wide-len.ensures.1))

pub counted-requires : goal.counted-requires
counted-requires c = let f = fits (whole_of c.args.rest c.args.m.now) c.args.r c.args.room c.args.t.now c.requires (search rules) in
    f.more

pub returns : goal.returns
returns c = let w = c.wide-len in
    kept (whole_of c.args.rest c.args.m.now) c.args.r c.args.room c.args.t.now c.requires (search rules) _ _ _ c.went_on-run.ensures
    (c.entered.ensures ∙ ap (λ (n : ℕ). entered_in c.args.m.now Account.Headers n) w.ensures.0) c.counted.ensures
