-- Two answers that a promise allows are equal.
use Rattle.std.specs.Prelude.{Result}
use Prim.Native.Nat.{ℕ}
use mathlib.Core.Path.{◌≡◌, sym, ◌∙◌}
use mathlib.Core.Bool.{Bool, ◌||◌}
use Rattle.rules.specs.Numbered.{first_row, kept}
use Rattle.sizes.specs.declared.Opening.{Opening}
use Rattle.session_rules.specs.declared.Rest.{Rest}
use Rattle.rule_50.specs.Inner.{rest_broken}
use Rattle.session_rules.specs.Refusals.{opening_rows, close_rows_by, lost_rows_by, take_rows_by}

pub opening-unique : (o : Opening) (room : ℕ) (x y : Result (Unit {0}) ℕ) → x ≡ kept (first_row (opening_rows o room)) →
    y ≡ kept (first_row (opening_rows o room)) → x ≡ y
opening-unique o room x y e f = e ∙ sym f

module _ (posted : Bool) (r : Rest) (x y : Result (Unit {0}) ℕ) where
  abbrev broken : Bool
  broken = rest_broken r.opening r.track.phase r.taken || posted

  pub close-unique : x ≡ kept (first_row (close_rows_by broken r.closed)) → y ≡ kept (first_row (close_rows_by broken r.closed)) → x ≡ y
  close-unique e f = e ∙ sym f

  pub lost-unique : x ≡ kept (first_row (lost_rows_by broken r.closed r.taken)) →
      y ≡ kept (first_row (lost_rows_by broken r.closed r.taken)) → x ≡ y
  lost-unique e f = e ∙ sym f

  pub take-unique : (room n : ℕ) → x ≡ kept (first_row (take_rows_by broken r.closed r.taken r.opening.frame room n)) →
      y ≡ kept (first_row (take_rows_by broken r.closed r.taken r.opening.frame room n)) → x ≡ y
  take-unique room n e f = e ∙ sym f
