use Prim.Native.Nat.{ℕ}
use mathlib.Core.Path.{◌≡◌, sym, subst}
use Rattle.session_rules.specs.Session.{take_of}
use Rattle.session.specs.Inner.{whole_of, kept_with, GoesOn}
use Rattle.session.proofs.go_on.Goals as goal

pub keep-requires : goal.keep-requires
keep-requires c = subst (λ (k : ℕ). GoesOn (whole_of c.args.rest c.args.m.now) c.args.r k c.args.t.now) (sym c.if-buffer-room.true) c.requires

pub returns-then-buffer-room : goal.returns-then-buffer-room
returns-then-buffer-room c =
    let x = c.keep in
    record {
      m_after = subst (λ (k : ℕ). kept_with x.result x.new.m ≡ take_of (whole_of c.args.rest c.args.m.now) k c.args.t.now)
          c.if-buffer-room.true x.ensures.m_after;
      written = λ e. x.ensures.buffer_after;
    }

pub returns : goal.returns
returns c = record { m_after = c.gone_on.ensures; written = λ e. absurd (c.if-buffer-room.false e) }
