-- A call that nothing refuses: what the record is good for.
use Prim.Native.Nat.{ℕ, ◌≤◌, ◌<◌, ◌^◌}
use mathlib.Core.Path.{◌≡◌}
use mathlib.Core.Bool.{false}
use native.Mathlib.Omega.{arith}
use lib.ListN.{length}
use borrow.Author.Tests.{ltb-false, eqb-false}
use Rattle.rules.specs.Numbered.{first_row, NoneOf}
use Rattle.rules.proofs.Rows.{row-none}
use Rattle.session_rules.specs.declared.Session.{Session}
use Rattle.session_rules.specs.Accounts.{number_count}
use Rattle.session_rules.specs.Rule50.{transfer_most}
use Rattle.session_rules.specs.Refusals.{posted_of, taken_most, record_broken, close_rows, lost_rows, take_rows}
use Rattle.rule_50.proofs.Able.{Able, able}
use Rattle.short_way.specs.Inner.{Ready}

abbrev pub AbleOf : Session → Type 0
AbleOf s = Able s.rest.opening s.rest.track.phase (posted_of s)

module _ (s : Session) where
  pub ready-able : Ready s → AbleOf s
  ready-able r = able s.rest.opening s.rest.track.phase (posted_of s) s.rest.taken r.sound r.places (omega (arith, r.more))

  pub take_none : (room len : ℕ) → first_row (take_rows s room len) ≡ 0 → NoneOf (take_rows s room len)
  take_none room len e = row-none (take_rows s room len) (omega arith, (omega arith, (omega arith, (omega arith, (omega arith, tt))))) e

  pub close-sound : first_row (close_rows s) ≡ 0 → record_broken s ≡ false
  close-sound e = (row-none (close_rows s) (omega arith, (omega arith, tt)) e).0

  module _ (places : length s.numbers ≡ number_count) (few : s.rest.taken < 2 ^ 32) where
    lost-none : NoneOf (lost_rows s) → Ready s
    lost-none n = let q = eqb-false s.rest.taken taken_most n.1.1.0 in record { sound = n.0; more = less q; places = places }
      where
        less : (s.rest.taken ≡ taken_most → ⊥) → s.rest.taken < taken_most
        less q = omega arith

    pub lost-ready : first_row (lost_rows s) ≡ 0 → Ready s
    lost-ready e = lost-none (row-none (lost_rows s) (omega arith, (omega arith, (omega arith, tt))) e)

    pub record Free (room len : ℕ) : Type 0 where
      pub ready : Ready s
      pub whole : s.rest.opening.frame ≤ room
      pub short : len ≤ transfer_most

    pub take-ready : (room len : ℕ) → first_row (take_rows s room len) ≡ 0 → Free room len
    take-ready room len e =
        let q = take_none room len e in
        record {
          ready = lost-none (q.0, (q.1.0, (q.1.1.0, tt)));
          whole = ltb-false room s.rest.opening.frame q.1.1.1.0;
          short = ltb-false transfer_most len q.1.1.1.1.0;
        }
