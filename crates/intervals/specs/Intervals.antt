-- The intervals of a frame, which stand at p: k of them, or, where k is 0, shortest, longest and step. And which intervals the frame offers.
use Rattle.std.specs.Prelude.{ℕ, zero, suc, ◌+◌, ◌-◌, ◌*◌, ◌%◌, ◌≤◌, ◌<◌, ◌≡◌, List, [], ◌∷◌, Bool, true, false, length, get_or, eqb, ltb, leb}
use Rattle.le.specs.Le.{le32_at}
use Rattle.rules.specs.IfElse.{if_else}

-- how many bytes the intervals take
abbrev pub span : ℕ → ℕ
span zero = 12
span (suc k) = 4 * suc k

-- the list of k intervals
unfoldable pub list_at : List ℕ → ℕ → ℕ → List ℕ
list_at s p zero = []
list_at s p (suc k) = le32_at s p ∷ list_at s (p + 4) k

abbrev pub shortest_at : List ℕ → ℕ → ℕ
shortest_at s p = le32_at s p

abbrev pub longest_at : List ℕ → ℕ → ℕ
longest_at s p = le32_at s (p + 4)

abbrev pub step_at : List ℕ → ℕ → ℕ
step_at s p = le32_at s (p + 8)

-- ---- THE RULE, as document 01 words it: which x could be the frame's default
-- a list: the intervals are nonzero and rise strictly, and x is among them
pub record Listed (l : List ℕ) (x : ℕ) : Type 0 where
  pub nonzero : (i : ℕ) → i < length l → get_or l i 0 ≡ 0 → ⊥
  pub rising : (i : ℕ) → i + 1 < length l → get_or l i 0 < get_or l (i + 1) 0
  pub place : ℕ
  pub within : place < length l
  pub there : get_or l place 0 ≡ x

-- no list: shortest is nonzero and at most longest, step is at least 1, and x is shortest plus a multiple of step and at most longest
pub record Stepped (shortest longest step x : ℕ) : Type 0 where
  pub nonzero : shortest ≡ 0 → ⊥
  pub ordered : shortest ≤ longest
  pub moving : 1 ≤ step
  pub times : ℕ
  pub multiple : x ≡ shortest + times * step
  pub most : x ≤ longest

abbrev pub Offered : List ℕ → ℕ → ℕ → ℕ → Type 0
Offered s p zero x = Stepped (shortest_at s p) (longest_at s p) (step_at s p) x
Offered s p (suc k) x = Listed (list_at s p (suc k)) x

-- ---- THE TEST that decides it
-- each is more than the one before it
unfoldable pub rises : ℕ → List ℕ → Bool
rises before [] = true
rises before (y ∷ l) = if_else (leb y before) false (rises y l)

unfoldable pub among : ℕ → List ℕ → Bool
among x [] = false
among x (y ∷ l) = if_else (eqb y x) true (among x l)

unfoldable pub stepped : ℕ → ℕ → ℕ → ℕ → Bool
stepped shortest longest step x =
    if_else (eqb shortest 0) false
    (if_else (eqb step 0) false
    (if_else (ltb longest shortest) false
    (if_else (ltb x shortest) false
    (if_else (ltb longest x) false
    (eqb ((x - shortest) % step) 0)))))

abbrev pub listed : List ℕ → ℕ → Bool
listed l x = if_else (rises 0 l) (among x l) false

unfoldable pub offered : List ℕ → ℕ → ℕ → ℕ → Bool
offered s p zero x = stepped (shortest_at s p) (longest_at s p) (step_at s p) x
offered s p (suc k) x = listed (list_at s p (suc k)) x
