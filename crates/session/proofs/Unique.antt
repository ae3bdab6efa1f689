-- Two answers, and two contents of the lent buffer, that a promise allows are equal.
use Prim.Native.Nat.{ℕ}
use mathlib.Core.Path.{◌≡◌, refl, sym, ap, ◌∙◌}
use mathlib.Core.List.{List, [], ◌∷◌}
use native.Mathlib.Omega.{arith}
use native.Mathlib.Decide.{ℕ_discrete}
use lib.ListN.{length}
use Rattle.sizes.specs.declared.Opening.{Opening}
use Rattle.session_rules.specs.declared.Ledger.{Ledger}
use Rattle.session_rules.specs.declared.Session.{Session}
use Rattle.session.specs.declared.RestTaken.{RestTaken}
use Rattle.session.specs.declared.RestReported.{RestReported}
use Rattle.session.specs.declared.RestClosed.{RestClosed}
use Rattle.session_rules.specs.declared.Opened.{Opened}
use Rattle.session_rules.specs.declared.Taken.{Taken}
use Rattle.session_rules.specs.declared.Reported.{Reported}
use Rattle.session_rules.specs.declared.Closed.{Closed}
use Rattle.session_rules.specs.Refusals.{ledger_of}
use Rattle.session_rules.specs.Session.{open_of}
use Rattle.session.specs.Inner.{taken_with, reported_with, closed_with, Lent, Written}

pub open-unique : (o : Opening) (room : ℕ) (x y : Opened) → x ≡ open_of o room → y ≡ open_of o room → x ≡ y
open-unique o room x y p q = p ∙ sym q

pub ledger-unique : (s : Session) (x y : Ledger) → x ≡ ledger_of s → y ≡ ledger_of s → x ≡ y
ledger-unique s x y p q = p ∙ sym q

-- of the calls on the record's two parts; the first of take, of take_for and of count
pub rest-take-unique : (t : Taken) (x y : RestTaken) (m k : List ℕ) → taken_with x m ≡ t → taken_with y k ≡ t → (x ≡ y) × (m ≡ k)
rest-take-unique t x y m k p q = (
  ap (λ (z : Taken). record { rest = z.session.rest; outcome = z.outcome }) (p ∙ sym q),
  ap (λ (z : Taken). z.session.numbers) (p ∙ sym q),
)

-- what take_for leaves in a buffer, whose length a call does not change
no_bytes : (x : List ℕ) → length x ≡ 0 → x ≡ []
no_bytes [] e = refl
no_bytes (b ∷ x) e = absurd (omega (arith, e))

pub lent-unique : (s : Session) (room : ℕ) (b t x y : List ℕ) → Lent room b → length x ≡ length b → length y ≡ length b → Written s room b t x →
    Written s room b t y → x ≡ y
lent-unique s room b t x y lent p q u v = go (ℕ_discrete (length b) 0)
  where
    go : Dec (length b ≡ 0) → x ≡ y
    go (no h) = u (lent h) ∙ sym (v (lent h))
    go (yes h) = no_bytes x (p ∙ h) ∙ sym (no_bytes y (q ∙ h))

pub rest-lost-unique : (t : Reported) (x y : RestReported) (m k : List ℕ) → reported_with x m ≡ t → reported_with y k ≡ t → (x ≡ y) × (m ≡ k)
rest-lost-unique t x y m k p q = (
  ap (λ (z : Reported). record { rest = z.session.rest; report = z.report }) (p ∙ sym q),
  ap (λ (z : Reported). z.session.numbers) (p ∙ sym q),
)

pub rest-close-unique : (t : Closed) (x y : RestClosed) (m k : List ℕ) → closed_with x m ≡ t → closed_with y k ≡ t → (x ≡ y) × (m ≡ k)
rest-close-unique t x y m k p q = (
  ap (λ (z : Closed). record { rest = z.session.rest; closing = z.closing }) (p ∙ sym q),
  ap (λ (z : Closed). z.session.numbers) (p ∙ sym q),
)
