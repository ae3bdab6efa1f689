-- The promise of `pick` leaves one answer.
use Prim.Native.Nat.{ℕ}
use mathlib.Core.Path.{◌≡◌, refl, sym, ap, ◌∙◌}
use mathlib.Core.List.{List}
use Rattle.rules.proofs.Verdicts.{clash, same_by}
use Rattle.configuration.specs.Inner.{ConfigurationIs}
use Rattle.configuration.specs.declared.Configuration.{Configuration}
use Rattle.configuration.proofs.Unique.{read-unique}
use Rattle.picking.specs.Inner.{refused_by, PickIs, own, picks}
use Rattle.picking.specs.declared.Picked.{Picked}

module _ (s : List ℕ) (i p : ℕ) where
  same : (c d : Configuration) → ConfigurationIs s c → ConfigurationIs s d → c.verdict ≡ d.verdict
  same c d a b = ap (λ (x : Configuration). x.verdict) (read-unique s a b)

  pub pick-unique : {x y : Picked} → PickIs s i p x → PickIs s i p y → x ≡ y
  pick-unique (own c k o a e) (own d j q b f) = same_by refused_by k o j q (sym e ∙ same c d a b ∙ f)
  pick-unique (own c k o a e) (picks d b f) = absurd (clash c.verdict k o e (same c d a b ∙ f))
  pick-unique (picks c a e) (own d j q b f) = absurd (clash d.verdict j q f (same d c b a ∙ e))
  pick-unique (picks c a e) (picks d b f) = refl
