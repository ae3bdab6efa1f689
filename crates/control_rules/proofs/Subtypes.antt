-- What the arms and the defaults of the matches on a subtype number say of its kind.
use Prim.Native.Nat.{ℕ, ◌+◌, ◌≤◌, ◌<◌}
use mathlib.Core.Path.{◌≡◌, refl, sym}
use mathlib.Core.List.{List}
use mathlib.Core.Bool.{Bool, true, false, true≢false}
use lib.ListN.{length}
use lib.Dec.{eqb}
use borrow.Author.Tests.{eqb-true}
use native.Mathlib.Omega.{arith}
use Rattle.le.specs.Le.{le16_at}
use Rattle.rules.specs.IfElse.{if_else}
use Rattle.entities.specs.Revisions.{says_of}
use Rattle.entities.specs.declared.Revision.{Revision}
use Rattle.control_rules.specs.Descriptors.{known_as, kind_of, is_entity, terminal_of, Shaped}
use Rattle.control_rules.specs.Rules.{pins_right, revision_right}
use Rattle.control_rules.proofs.Shortest.{by_kind, shortest, room}

module _ (s : List ℕ) (o : ℕ) where
  pub revision-else : (x : ℕ) → (x ≡ 1 → ⊥) → true ≡ revision_right (kind_of x) s o
  unfolding revision_right
  revision-else =
      by_kind (λ x k. (x ≡ 1 → ⊥) → true ≡ revision_right k s o)
      (λ h. absurd (h refl)) (λ h. refl) (λ h. refl) (λ h. refl) (λ h. refl) (λ h. refl) (λ h. refl) (λ h. refl) (λ n l h. refl)

  pub pins-else : (x : ℕ) → (x ≡ 4 → ⊥) → (x ≡ 6 → ⊥) → true ≡ pins_right (kind_of x) s o
  unfolding pins_right
  pins-else =
      by_kind (λ x k. (x ≡ 4 → ⊥) → (x ≡ 6 → ⊥) → true ≡ pins_right k s o)
      (λ h i. refl) (λ h i. refl) (λ h i. refl) (λ h i. absurd (h refl)) (λ h i. refl) (λ h i. absurd (i refl)) (λ h i. refl) (λ h i. refl) (λ n l h i. refl)

  pub terminal-else : (x : ℕ) → (x ≡ 2 → ⊥) → (x ≡ 3 → ⊥) → 0 ≡ terminal_of (kind_of x) s o
  unfolding terminal_of
  terminal-else =
      by_kind (λ x k. (x ≡ 2 → ⊥) → (x ≡ 3 → ⊥) → 0 ≡ terminal_of k s o)
      (λ h i. refl) (λ h i. absurd (h refl)) (λ h i. absurd (i refl)) (λ h i. refl) (λ h i. refl) (λ h i. refl) (λ h i. refl) (λ h i. refl) (λ n l h i. refl)

terminal-long : (x : ℕ) → 2 ≤ x → x ≤ 3 → 6 ≤ shortest (kind_of x)
unfolding shortest
terminal-long =
    by_kind (λ x k. 2 ≤ x → x ≤ 3 → 6 ≤ shortest k)
    (λ a b. absurd (omega arith)) (λ a b. omega arith) (λ a b. omega arith) (λ a b. absurd (omega arith)) (λ a b. absurd (omega arith)) (λ a b. absurd (omega arith)) (λ a b. absurd (omega arith)) (λ a b. absurd (omega arith)) (λ m l a b. absurd (omega arith))

pub terminal-room : (s : List ℕ) (o x : ℕ) → 2 ≤ x → x ≤ 3 → Shaped (kind_of x) s o → o + 4 + 1 < length s
terminal-room s o x l h w = omega (arith, room (kind_of x) s o w, terminal-long x l h)

pub terminal-in : (s : List ℕ) (o x r : ℕ) → 2 ≤ x → x ≤ 3 → r ≡ le16_at s (o + 4) → r ≡ terminal_of (kind_of x) s o
unfolding terminal_of
terminal-in s o x r =
    by_kind (λ x k. 2 ≤ x → x ≤ 3 → r ≡ le16_at s (o + 4) → r ≡ terminal_of k s o)
    (λ a b p. absurd (omega arith)) (λ a b p. p) (λ a b p. p) (λ a b p. absurd (omega arith)) (λ a b p. absurd (omega arith)) (λ a b p. absurd (omega arith)) (λ a b p. absurd (omega arith)) (λ a b p. absurd (omega arith)) (λ m l a b p. absurd (omega arith)) x

pub entity-in : (x : ℕ) → 2 ≤ x → x ≤ 7 → true ≡ is_entity (kind_of x)
unfolding is_entity
entity-in =
    by_kind (λ x k. 2 ≤ x → x ≤ 7 → true ≡ is_entity k)
    (λ a b. absurd (omega arith)) (λ a b. refl) (λ a b. refl) (λ a b. refl) (λ a b. refl) (λ a b. refl) (λ a b. refl) (λ a b. absurd (omega arith)) (λ n l a b. absurd (omega arith))

pub entity-below : (x : ℕ) → x < 2 → false ≡ is_entity (kind_of x)
unfolding is_entity
entity-below =
    by_kind (λ x k. x < 2 → false ≡ is_entity k)
    (λ a. refl) (λ a. absurd (omega arith)) (λ a. absurd (omega arith)) (λ a. absurd (omega arith)) (λ a. absurd (omega arith)) (λ a. absurd (omega arith)) (λ a. absurd (omega arith)) (λ a. refl) (λ n l a. refl)

pub entity-above : (x : ℕ) → 7 < x → false ≡ is_entity (kind_of x)
unfolding is_entity
entity-above =
    by_kind (λ x k. 7 < x → false ≡ is_entity k)
    (λ a. refl) (λ a. absurd (omega arith)) (λ a. absurd (omega arith)) (λ a. absurd (omega arith)) (λ a. absurd (omega arith)) (λ a. absurd (omega arith)) (λ a. absurd (omega arith)) (λ a. refl) (λ n l a. refl)

-- an entity's subtype is known to its revision
pub entity-known : (v : Revision) (x : ℕ) → is_entity (kind_of (known_as v x)) ≡ true → known_as v x ≡ x
unfolding known_as if_else kind_of is_entity
entity-known v x h = go (eqb x 7) refl (says_of v).encoding refl h
  where
    go : (a : Bool) → eqb x 7 ≡ a → (b : Bool) → (says_of v).encoding ≡ b → is_entity (kind_of (if_else a (if_else b 7 0) x)) ≡ true → if_else a (if_else b 7 0) x ≡ x
    go true p true q i = sym (eqb-true x 7 p)
    go true p false q i = absurd (true≢false (sym i))
    go false p b q i = refl
