-- Two answers, two contents of the lent record and two of the lent buffer that a promise allows are equal.
use Prim.Native.Nat.{ℕ}
use mathlib.Core.Path.{◌≡◌, sym, ◌∙◌}
use mathlib.Core.List.{List}
use lib.ListN.{length}
use Rattle.session_rules.specs.declared.Rest.{Rest}
use Rattle.session.specs.declared.RestTaken.{RestTaken}
use Rattle.session.specs.declared.RestReported.{RestReported}
use Rattle.session.specs.declared.RestClosed.{RestClosed}
use Rattle.ledger_record.specs.Recorded.{take_in, take_left, take_buffer, lost_in, lost_left, close_in, close_left}

module _ (r : List ℕ) (rest : Rest) where
  pub take-unique : (b t : List ℕ) (x y : RestTaken) (s u c d : List ℕ) → x ≡ take_in r rest (length b) t → y ≡ take_in r rest (length b) t → s ≡ take_left r rest (length b) t → u ≡ take_left r rest (length b) t
      → c ≡ take_buffer r rest b t → d ≡ take_buffer r rest b t → (x ≡ y) × ((s ≡ u) × (c ≡ d))
  take-unique b t x y s u c d p q e f g h = (p ∙ sym q, (e ∙ sym f, g ∙ sym h))

  pub lost-unique : (x y : RestReported) (s u : List ℕ) → x ≡ lost_in r rest → y ≡ lost_in r rest → s ≡ lost_left r rest → u ≡ lost_left r rest → (x ≡ y) × (s ≡ u)
  lost-unique x y s u p q e f = (p ∙ sym q, e ∙ sym f)

  pub close-unique : (x y : RestClosed) (s u : List ℕ) → x ≡ close_in r rest → y ≡ close_in r rest → s ≡ close_left r rest → u ≡ close_left r rest → (x ≡ y) × (s ≡ u)
  close-unique x y s u p q e f = (p ∙ sym q, e ∙ sym f)
