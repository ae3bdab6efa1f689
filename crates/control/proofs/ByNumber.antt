-- A block is refused by a rule of a descriptor, 5 to 12, exactly when that rule comes to be asked there and is broken.
use Rattle.rules.specs.Verdicts.{refuse}
use Prim.Native.Nat.{ℕ, ◌≤◌}
use mathlib.Core.Path.{◌≡◌, refl}
use mathlib.Core.List.{List}
use mathlib.Core.Logic.{◌↔◌}
use lib.ListN.{length}
use native.Mathlib.Omega.{arith}
use Rattle.le.specs.Le.{byte}
use Rattle.rules.specs.Walk.{FirstBreak, BrokenBy}
use Rattle.rules.proofs.Walks.{first_by}
use Rattle.entities.specs.declared.Entity.{Entity}
use Rattle.control_rules.specs.Descriptors.{revision_of}
use Rattle.control_rules.proofs.Order.{once}
use Rattle.control.specs.Answer.{used_before, course, ControlIs}
use Rattle.control.specs.Broken.{BlockRight, FirstBroken, FirstBroken.by-block, FirstBroken.by-descriptor, FirstBroken.by-13, FirstBroken.by-14, FirstBroken.by-15}
use Rattle.control.specs.declared.Control.{Control}
use Rattle.control.proofs.ExactlyWhen.{refused, head_few}

module _ (s : List ℕ) where
  -- the block is right, and rule k comes to be asked at o and is broken
  abbrev pub Broken : ℕ → ℕ → Type 0
  Broken k o = BlockRight s × BrokenBy (course s) k o

  by-rule : (k o : ℕ) → FirstBreak (course s) k o ↔ BrokenBy (course s) k o
  by-rule k o = first_by (course s) (λ (l : List Entity) p. once (revision_of s) s p (used_before l (byte s p 3)) (length l)) k o

  to-broken : (k : ℕ) → 5 ≤ k → k ≤ 12 → {j o : ℕ} → FirstBroken s j o → j ≡ k → Broken k o
  to-broken k a b (by-block j g) e = absurd (omega (arith, head_few s g))
  to-broken k a b (by-descriptor j o z f) e = (z, (by-rule k o).0 (rw e at f))
  to-broken k a b (by-13 l o z h r f) e = absurd (omega arith)
  to-broken k a b (by-14 l o z h r c f) e = absurd (omega arith)
  to-broken k a b (by-15 l o z h r c d f) e = absurd (omega arith)

  -- EXACTLY WHEN, number by number
  pub refused-by : (c : Control) → ControlIs s c → (k : ℕ) → 5 ≤ k → k ≤ 12 → (o : ℕ) → (c.verdict ≡ refuse k o) ↔ Broken k o
  refused-by c r k a b o = (
    λ e. to-broken k a b ((refused s c r k o).0 e) refl,
    λ x. (refused s c r k o).1 (by-descriptor k o x.0 ((by-rule k o).1 x.1)),
  )
