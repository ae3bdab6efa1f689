-- The promise of each question leaves one answer: each is told of what one reader answers.
use Prim.Native.Nat.{ℕ}
use mathlib.Core.Path.{◌≡◌}
use mathlib.Core.List.{List}
use Rattle.configuration.specs.Inner.{ConfigurationIs}
use Rattle.configuration.specs.declared.Configuration.{Configuration}
use Rattle.configuration.proofs.Unique as configuration
use Rattle.picking.specs.Inner.{PickIs}
use Rattle.picking.specs.declared.Picked.{Picked}
use Rattle.picking.proofs.Unique.{pick-unique}
use Rattle.host_told.specs.Told.{From}
use Rattle.host_told.proofs.Unique.{from-unique}

module _ {B : Type 0} (s : List ℕ) where
  -- palkodhen_configuration, _setting_at, _block_at: what it answers, and what it leaves
  pub of-configuration : (told : Configuration → B) (r t : B) → From (ConfigurationIs s) told r → From (ConfigurationIs s) told t → r ≡ t
  of-configuration = from-unique (λ a b x y. configuration.read-unique s x y)

  -- palkodhen_pick
  pub of-pick : (i p : ℕ) (told : Picked → B) (r t : B) → From (PickIs s i p) told r → From (PickIs s i p) told t → r ≡ t
  of-pick i p = from-unique (λ a b x y. pick-unique s i p x y)
