-- The promise of each question leaves one answer: each is told of what one reader answers.
use Prim.Native.Nat.{ℕ}
use mathlib.Core.Path.{◌≡◌}
use mathlib.Core.List.{List}
use Rattle.control.specs.Answer.{ControlIs}
use Rattle.control.specs.declared.Control.{Control}
use Rattle.control.proofs.Unique as control
use Rattle.control_map.specs.Answer.{MapIs}
use Rattle.control_map.specs.declared.Map.{Map}
use Rattle.control_map.proofs.Unique.{controls-unique}
use Rattle.host_told.specs.Told.{From}
use Rattle.host_told.proofs.Unique.{from-unique}

module _ {B : Type 0} (s : List ℕ) where
  -- palkodhen_control, _streaming, _entity_at, _clock, _revision, _format_at, _frame_at
  pub of-control : (told : Control → B) (r t : B) → From (ControlIs s) told r → From (ControlIs s) told t → r ≡ t
  of-control = from-unique (λ a b x y. control.read-unique s x y)

  -- palkodhen_controls: what it answers, and what it leaves
  pub of_map : (id : ℕ) (told : Map → B) (r t : B) → From (MapIs s id) told r → From (MapIs s id) told t → r ≡ t
  of_map id = from-unique (λ a b x y. controls-unique s id x y)
