-- Finding a name: where it ends, and where the k-th begins.
use mathlib.Core.Path.{◌≡◌, refl, ap, ◌∙◌}
use mathlib.Core.Bool.{Bool, true, false}
use mathlib.Core.List.{List, [], ◌∷◌}
use Prim.Native.Nat.{ℕ, zero, suc, ◌+◌, ◌-◌, ◌*◌, ◌≤◌, ◌<◌}
use native.Mathlib.Nat.{sub-zero}
use native.Mathlib.Numerals.{add-one}
use native.Mathlib.Omega.{arith}
use borrow.Author.Tests.{eq-eqb, ne_eqb}
use lib.Dec.{eqb}
use lib.ListN.{length, take, drop, get_or, length-drop}
use lib.Seq.{drop-cons, drop-drop}
use Rattle.text.specs.Put.{Put}
use Rattle.text.specs.Text.{line}
use Rattle.name_tables.specs.Tables.{length_by, name_length, first, rest, behind, name_at}
use Rattle.name_tables.specs.Inner.{Ends, Begins}

by_end : (e : Bool) (n l : ℕ) → n ≤ l → length_by e n ≤ suc l
by_end true n l h = omega arith
by_end false n l h = omega arith

-- a name lies within its table
length_most : (t : List ℕ) → name_length t ≤ length t
length_most [] = omega arith
length_most (b ∷ t) = by_end (eqb b 10) (name_length t) (length t) (length_most t)

-- ---- looking for the end: the name from i on ends where that from `from` on does
pub record Looks (t : List ℕ) (from i : ℕ) : Type 0 where
  pub within : i ≤ length t
  pub same : i + name_length (drop i t) ≡ from + name_length (drop from t)

pub at-end : (t : List ℕ) (from i : ℕ) → Looks t from i → i < length t → get_or t i 0 ≡ 10 → Ends t from i
at-end t from i k h e = record { within = k.within; here = omega (arith, zero-long) }
  where
    zero-long : name_length (drop i t) ≡ 0
    zero-long = rw (drop-cons t i 0 h, eq-eqb (get_or t i 0) 10 e)

pub at_other : (t : List ℕ) (from i : ℕ) → Looks t from i → i < length t → (get_or t i 0 ≡ 10 → ⊥) → Looks t from (i + 1)
at_other t from i k h e = record { within = omega arith; same = omega (arith, one-longer) }
  where
    one-longer : name_length (drop i t) ≡ suc (name_length (drop (i + 1) t))
    one-longer = rw (add-one i, drop-cons t i 0 h, ne_eqb (get_or t i 0) 10 e)

pub at_last : (t : List ℕ) (from i : ℕ) → Looks t from i → length t ≤ i → Ends t from (length t)
at_last t from i k h = record { within = omega arith; here = omega (arith, k.within, k.same, length_most (drop i t), length-drop i t) }

-- the next name begins behind the end of this one
pub rest_from : (t : List ℕ) (from r : ℕ) → Ends t from r → rest (drop from t) ≡ drop (r + 1) t
rest_from t from r e = drop-drop (suc (name_length (drop from t))) from t ∙ ap (λ (k : ℕ). drop k t) next
  where
    next : from + suc (name_length (drop from t)) ≡ r + 1
    next = omega arith

pub first-from : (t : List ℕ) (from r : ℕ) → Ends t from r → take (r - from) (drop from t) ≡ first (drop from t)
first-from t from r e = ap (λ (k : ℕ). take k (drop from t)) size
  where
    size : r - from ≡ name_length (drop from t)
    size = omega arith

-- ---- the k-th name: i names lie before `at`
pub record Passed (t : List ℕ) (k at i : ℕ) : Type 0 where
  pub within : at ≤ length t
  pub few : i ≤ k
  pub left : behind k t ≡ behind (k - i) (drop at t)

pub start : (t : List ℕ) (k : ℕ) → Passed t k 0 0
start t k = record { within = omega arith; few = omega arith; left = simp sub-zero }

one_more : (t : List ℕ) (k i : ℕ) → i < k → behind (k - i) t ≡ behind (k - (i + 1)) (rest t)
one_more t k i h = ap (λ (j : ℕ). behind j t) count
  where
    count : k - i ≡ suc (k - (i + 1))
    count = omega arith

past : (t : List ℕ) (k at i r : ℕ) → Passed t k at i → i < k → Ends t at r → behind k t ≡ behind (k - (i + 1)) (drop (r + 1) t)
past t k at i r p h e = p.left ∙ one_more (drop at t) k i h ∙ ap (behind (k - (i + 1))) (rest_from t at r e)

pub passes : (t : List ℕ) (k at i r : ℕ) → Passed t k at i → i < k → Ends t at r → (r ≡ length t → ⊥) → Passed t k (r + 1) (i + 1)
passes t k at i r p h e n = record { within = omega (arith, e.within, n); few = omega arith; left = past t k at i r p h e }

nothing : (l : List ℕ) → length l ≡ 0 → l ≡ []
nothing [] h = refl
nothing (b ∷ l) h = absurd (omega arith)

pub drop_all : (k : ℕ) (t : List ℕ) → length t ≤ k → drop k t ≡ []
drop_all k t h = nothing (drop k t) (omega (arith, length-drop k t))

none-behind : (k : ℕ) → behind k [] ≡ []
none-behind zero = refl
none-behind (suc k) = none-behind k

pub runs-out : (t : List ℕ) (k at i r : ℕ) → Passed t k at i → i < k → Ends t at r → r ≡ length t → Begins t k r
runs-out t k at i r p h e l =
    record { within = e.within; here = past t k at i r p h e ∙ rw (drop_all (r + 1) t (omega arith), drop_all r t (omega arith)) (none-behind (k - (i + 1))) }

pub begins : (t : List ℕ) (k at i : ℕ) → Passed t k at i → k ≤ i → Begins t k at
begins t k at i p h = record { within = p.within; here = p.left ∙ ap (λ (j : ℕ). behind j (drop at t)) none }
  where
    none : k - i ≡ 0
    none = omega arith

-- ---- the part of the table is the k-th name
module _ (t : List ℕ) (k from r : ℕ) (b : Begins t k from) (e : Ends t from r) where
  name-part : take (r - from) (drop from t) ≡ name_at k t
  name-part = first-from t from r e ∙ rw b.here

  pub name-fits : (at n m : ℕ) → at + length (name_at k t) + 21 * n + 1 ≤ m → at + length (take (r - from) (drop from t)) + 21 * n + 1 ≤ m
  name-fits at n m h = rw name-part h

  pub name-put : (ns : List ℕ) {old new : List ℕ} {at q : ℕ} → Put old at (line (take (r - from) (drop from t)) ns) q new → Put old at (line (name_at k t) ns) q new
  name-put ns p = rw name-part at p
