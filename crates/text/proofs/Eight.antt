-- Eight numbers of a list of eight, taken one by one, are the list.
use mathlib.Core.Path.{◌≡◌, refl, subst}
use mathlib.Core.List.{List, [], ◌∷◌}
use Prim.Native.Nat.{ℕ}
use native.Mathlib.Omega.{arith}
use lib.ListN.{length, get_or}
use Rattle.text.specs.Put.{Put}
use Rattle.text.specs.Text.{line}

abbrev eight : List ℕ → List ℕ
eight l = get_or l 0 0 ∷ get_or l 1 0 ∷ get_or l 2 0 ∷ get_or l 3 0 ∷ get_or l 4 0 ∷ get_or l 5 0 ∷ get_or l 6 0 ∷ get_or l 7 0 ∷ []

all-eight : (l : List ℕ) → length l ≡ 8 → eight l ≡ l
all-eight (a ∷ b ∷ c ∷ d ∷ e ∷ f ∷ g ∷ h ∷ []) p = refl
all-eight (a ∷ b ∷ c ∷ d ∷ e ∷ f ∷ g ∷ h ∷ i ∷ l) p = absurd (omega arith)
all-eight (a ∷ b ∷ c ∷ d ∷ e ∷ f ∷ g ∷ []) p = absurd (omega arith)
all-eight (a ∷ b ∷ c ∷ d ∷ e ∷ f ∷ []) p = absurd (omega arith)
all-eight (a ∷ b ∷ c ∷ d ∷ e ∷ []) p = absurd (omega arith)
all-eight (a ∷ b ∷ c ∷ d ∷ []) p = absurd (omega arith)
all-eight (a ∷ b ∷ c ∷ []) p = absurd (omega arith)
all-eight (a ∷ b ∷ []) p = absurd (omega arith)
all-eight (a ∷ []) p = absurd (omega arith)
all-eight [] p = absurd (omega arith)

pub laid : (name l : List ℕ) {old new : List ℕ} {at r : ℕ} → length l ≡ 8 → Put old at (line name (eight l)) r new → Put old at (line name l) r new
laid name l {old} {new} {at} {r} h p = subst (λ (ns : List ℕ). Put old at (line name ns) r new) (all-eight l h) p
