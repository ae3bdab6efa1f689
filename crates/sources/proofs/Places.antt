-- How many sources a subtype has and where they stand: what the defaults of the matches say.
use Prim.Native.Nat.{ℕ}
use mathlib.Core.Path.{◌≡◌, refl}
use mathlib.Core.List.{List}
use Rattle.control_rules.specs.Descriptors.{kind_of, source_count, source_place}
use Rattle.control_rules.proofs.Shortest.{by_kind}

module _ (s : List ℕ) (o : ℕ) where
  pub count-else : (x : ℕ) → (x ≡ 3 → ⊥) → (x ≡ 4 → ⊥) → (x ≡ 5 → ⊥) → (x ≡ 6 → ⊥) → (x ≡ 7 → ⊥) → 0 ≡ source_count (kind_of x) s o
  unfolding source_count
  count-else =
      by_kind (λ x k. (x ≡ 3 → ⊥) → (x ≡ 4 → ⊥) → (x ≡ 5 → ⊥) → (x ≡ 6 → ⊥) → (x ≡ 7 → ⊥) → 0 ≡ source_count k s o)
      (λ a b c d e. refl) (λ a b c d e. refl) (λ a b c d e. absurd (a refl)) (λ a b c d e. absurd (b refl)) (λ a b c d e. absurd (c refl)) (λ a b c d e. absurd (d refl)) (λ a b c d e. absurd (e refl)) (λ a b c d e. refl) (λ n l a b c d e. refl)

pub place-else : (x : ℕ) → (x ≡ 3 → ⊥) → (x ≡ 4 → ⊥) → (x ≡ 5 → ⊥) → (x ≡ 6 → ⊥) → (x ≡ 7 → ⊥) → 0 ≡ source_place (kind_of x)
unfolding source_place
place-else =
    by_kind (λ x k. (x ≡ 3 → ⊥) → (x ≡ 4 → ⊥) → (x ≡ 5 → ⊥) → (x ≡ 6 → ⊥) → (x ≡ 7 → ⊥) → 0 ≡ source_place k)
    (λ a b c d e. refl) (λ a b c d e. refl) (λ a b c d e. absurd (a refl)) (λ a b c d e. absurd (b refl)) (λ a b c d e. absurd (c refl)) (λ a b c d e. absurd (d refl)) (λ a b c d e. absurd (e refl)) (λ a b c d e. refl) (λ n l a b c d e. refl)
