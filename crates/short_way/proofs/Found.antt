-- What the code finds of the record's parts, it finds of the record.
use Prim.Native.Nat.{ℕ, zero, suc}
use mathlib.Core.Path.{◌≡◌, refl, sym, ap, ◌∙◌}
use mathlib.Core.List.{List}
use mathlib.Core.Bool.{Bool, true, ◌||◌, true≢false}
use lib.ListN.{length}
use Rattle.std.specs.Prelude.{Result, is_ok}
use Rattle.rules.specs.Numbered.{first_row, kept}
use Rattle.session_rules.specs.declared.Rest.{Rest}
use Rattle.session_rules.specs.Accounts.{number_count}
use Rattle.session_rules.specs.Refusals.{record_broken, close_rows_by, lost_rows_by, take_rows_by, close_rows, lost_rows, take_rows}
use Rattle.rule_50.specs.Inner.{rest_broken, posted_broken}
use Rattle.rule_50.proofs.Parts.{record-parts}
use Rattle.short_way.specs.Inner.{whole_of}

-- where a refusal is Ok, nothing refuses
pub is_ok-none : (x : Result (Unit {0}) ℕ) (b : Bool) (n : ℕ) → x ≡ kept n → b ≡ is_ok x → b ≡ true → n ≡ 0
is_ok-none x b zero e d y = refl
is_ok-none x b (suc n) e d y = absurd (true≢false (sym y ∙ d ∙ ap is_ok e))

module _ (r : Rest) (l : List ℕ) (places : length l ≡ number_count) (posted : Bool) (e : posted ≡ posted_broken l r.taken) (x : Result (Unit {0}) ℕ) where
  abbrev rest : Bool
  rest = rest_broken r.opening r.track.phase r.taken

  found : (rest || posted) ≡ record_broken (whole_of r l)
  found = ap (λ (b : Bool). rest || b) e ∙ sym (record-parts r.opening r.track.phase l r.last r.taken places)

  pub close-found : x ≡ kept (first_row (close_rows_by (rest || posted) r.closed)) → x ≡ kept (first_row (close_rows (whole_of r l)))
  close-found q = q ∙ ap (λ (b : Bool). kept (first_row (close_rows_by b r.closed))) found

  pub lost-found : x ≡ kept (first_row (lost_rows_by (rest || posted) r.closed r.taken)) → x ≡ kept (first_row (lost_rows (whole_of r l)))
  lost-found q = q ∙ ap (λ (b : Bool). kept (first_row (lost_rows_by b r.closed r.taken))) found

  pub take_found : (room len : ℕ) → x ≡ kept (first_row (take_rows_by (rest || posted) r.closed r.taken r.opening.frame room len)) →
      x ≡ kept (first_row (take_rows (whole_of r l) room len))
  take_found room len q = q ∙ ap (λ (b : Bool). kept (first_row (take_rows_by b r.closed r.taken r.opening.frame room len))) found
