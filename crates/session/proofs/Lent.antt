-- Where the numbers are lent: a refused call gives the rest back as it was, and changes no number.
use Rattle.std.specs.Prelude.{Err}
use Prim.Native.Nat.{ℕ}
use mathlib.Core.Path.{◌≡◌, sym, ap, ◌∙◌}
use mathlib.Core.List.{List}
use lib.ListN.{length}
use Rattle.session_rules.specs.declared.Session.{Session}
use Rattle.session_rules.specs.declared.Rest.{Rest}
use Rattle.session.specs.declared.RestTaken.{RestTaken}
use Rattle.session.specs.declared.RestReported.{RestReported}
use Rattle.session.specs.declared.RestClosed.{RestClosed}
use Rattle.session_rules.specs.declared.Outcome.{Outcome}
use Rattle.session_rules.specs.declared.Taken.{Taken}
use Rattle.session_rules.specs.declared.Reported.{Reported}
use Rattle.session_rules.specs.declared.Closed.{Closed}
use Rattle.session_rules.specs.Session.{take_of, lost_of, close_of}
use Rattle.session.specs.Inner.{whole_of, taken_with, reported_with, closed_with}
use Rattle.session_rules.proofs.Refused.{count-as-it-was, lost-as-it-was, close-as-it-was}

-- r and m are the rest and the numbers before the call; n are the numbers after it
module _ (r : Rest) (m n : List ℕ) (k : ℕ) where
  parts : (q : Rest) → whole_of q n ≡ whole_of r m → (q ≡ r) × (n ≡ m)
  parts q e = (ap (λ (s : Session). s.rest) e, ap (λ (s : Session). s.numbers) e)

  pub rest-count-as-it-was : (room : ℕ) (t : List ℕ) (x : RestTaken) → taken_with x n ≡ take_of (whole_of r m) room t → x.outcome ≡ Outcome.Refused k →
      (x.rest ≡ r) × (n ≡ m)
  rest-count-as-it-was room t x e f =
      parts x.rest (ap (λ (y : Taken). y.session) e ∙ count-as-it-was (whole_of r m) t room k (sym (ap (λ (y : Taken). y.outcome) e) ∙ f))

  pub rest-take-as-it-was : (buffer t : List ℕ) (x : RestTaken) → taken_with x n ≡ take_of (whole_of r m) (length buffer) t → x.outcome ≡ Outcome.Refused k → (x.rest ≡ r) × (n ≡ m)
  rest-take-as-it-was buffer t = rest-count-as-it-was (length buffer) t

  pub rest-lost-as-it-was : (x : RestReported) → reported_with x n ≡ lost_of (whole_of r m) → x.report ≡ Err k → (x.rest ≡ r) × (n ≡ m)
  rest-lost-as-it-was x e f =
      parts x.rest (ap (λ (y : Reported). y.session) e ∙ lost-as-it-was (whole_of r m) k (sym (ap (λ (y : Reported). y.report) e) ∙ f))

  pub rest-close-as-it-was : (x : RestClosed) → closed_with x n ≡ close_of (whole_of r m) → x.closing ≡ Err k → (x.rest ≡ r) × (n ≡ m)
  rest-close-as-it-was x e f =
      parts x.rest (ap (λ (y : Closed). y.session) e ∙ close-as-it-was (whole_of r m) k (sym (ap (λ (y : Closed). y.closing) e) ∙ f))
