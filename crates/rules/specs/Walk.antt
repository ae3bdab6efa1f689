-- A block is a line of descriptors, one after the other from offset 0. Each is held to its rules, after what the earlier ones gave.
use Rattle.std.specs.Prelude.{ℕ, zero, suc, ◌+◌, ◌≤◌, ◌<◌, ◌≡◌, List, Bool, true, false, ltb}
use Rattle.rules.specs.Numbered.{Row, first_row, Given, NoneOf, rows_before, is_broken}

-- What a block asks of a walk. A is what the walk gathers, as the list of entities so far.
pub record Course (A : Type 0) : Type 0 where
  -- the block's length, and the length of the descriptor at an offset
  pub size : ℕ
  pub len : ℕ → ℕ
  -- the rules of the descriptor at an offset, each with its number, in the order in which they are checked
  pub rows : A → ℕ → List Row
  -- what is gathered at first, and after the descriptor at an offset
  pub start : A
  pub gather : A → ℕ → A

-- what a walk comes to: all that was gathered, or the first broken rule and its place
pub data Outcome (A : Type 0) : Type 0 where
  done : A → Outcome A
  stop : ℕ → ℕ → Outcome A

module _ {A : Type 0} where
  -- WITHOUT A WALK: a descriptor, or the end, stands at an offset, after descriptors that gave this
  pub data Reached (c : Course A) : A → ℕ → Type 0 where
    first : Reached c c.start 0
    next : {a : A} {o : ℕ} → Reached c a o → o < c.size → 0 < c.len o → o + c.len o ≤ c.size → Reached c (c.gather a o) (o + c.len o)

  -- a descriptor starts at o
  pub record Starts (c : Course A) (o : ℕ) : Type 0 where
    pub seen : A
    pub there : Reached c seen o
    pub inside : o < c.size

  -- no descriptor breaks a rule
  abbrev pub Clean : Course A → Type 0
  Clean c = (a : A) (o : ℕ) → Reached c a o → o < c.size → NoneOf (c.rows a o)

  -- rule k is the first in their order that the descriptor at o breaks, and no earlier descriptor breaks one
  pub record FirstBreak (c : Course A) (k o : ℕ) : Type 0 where
    pub seen : A
    pub there : Reached c seen o
    pub inside : o < c.size
    pub given : Given (c.rows seen o) k
    pub earliest : (a : A) (p : ℕ) → Reached c a p → p < o → NoneOf (c.rows a p)

  -- rule k comes to be asked of the descriptor at o: every earlier descriptor keeps its rules, and this one those that are checked before k
  pub record Comes (c : Course A) (k o : ℕ) : Type 0 where
    pub seen : A
    pub there : Reached c seen o
    pub inside : o < c.size
    pub earlier : (a : A) (p : ℕ) → Reached c a p → p < o → NoneOf (c.rows a p)
    pub before : NoneOf (rows_before k (c.rows seen o))

  -- and is broken there
  abbrev pub BrokenBy : Course A → ℕ → ℕ → Type 0
  BrokenBy c k o = (x : Comes c k o) × (is_broken k (c.rows x.seen o) ≡ true)

  -- BY A WALK: the first rule that the descriptor at o breaks, 0 for none
  abbrev pub broken_at : Course A → A → ℕ → ℕ
  broken_at c a o = first_row (c.rows a o)

  -- past the end: done. At a descriptor that breaks a rule: stop. Else on.
  abbrev pub decide : Bool → ℕ → A → ℕ → (Unit {0} → Outcome A) → Outcome A
  decide false k a o on = done a
  decide true zero a o on = on tt
  decide true (suc k) a o on = stop (suc k) o

  -- the walk from o on, over at most `fuel` descriptors
  unfoldable pub walk_from : ℕ → Course A → A → ℕ → Outcome A
  walk_from zero c a o = done a
  walk_from (suc fuel) c a o = decide (ltb o c.size) (broken_at c a o) a o (λ u. walk_from fuel c (c.gather a o) (o + c.len o))

  unfoldable pub walk : Course A → Outcome A
  walk c = walk_from c.size c c.start 0
