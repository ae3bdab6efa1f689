-- Rows tell of rules in words: no row is broken exactly when every rule is kept, and the first row that is broken is the first rule that is not kept.
use Prim.Native.Nat.{ℕ, zero, suc, ◌<◌}
use mathlib.Core.Path.{◌≡◌, refl, sym, ◌∙◌}
use mathlib.Core.List.{List, [], ◌∷◌}
use mathlib.Core.Bool.{Bool, true, false}
use mathlib.Core.Logic.{inl, inr, ⊎_elim}
use native.Mathlib.Omega.{arith}
use Rattle.rules.specs.Numbered.{Row, or_else, first_row}
use Rattle.rules.specs.Asked.{Rule, AllKept, FirstFails}

-- a test tells of a rule: it says yes where the rule is not kept
pub record Tells (f : Bool) (P : Type 0) : Type 0 where
  pub up : f ≡ true → P → ⊥
  pub down : f ≡ false → P

-- rows and rules go together, number by number; a row has to tell of its rule only where the earlier rules are kept
abbrev pub Tell : List Row → List Rule → Type 0
Tell [] [] = Unit {0}
Tell [] (r ∷ rs) = ⊥
Tell (w ∷ ws) [] = ⊥
Tell (w ∷ ws) (r ∷ rs) = (w.number ≡ r.number) × Tells w.broken r.asks × (r.asks → Tell ws rs)

-- no rule has the number 0
abbrev pub Numbered : List Rule → Type 0
Numbered [] = Unit {0}
Numbered (r ∷ rs) = (0 < r.number) × Numbered rs

-- what the number of the first broken row says
pub data Comes (rs : List Rule) : ℕ → Type 0 where
  kept : AllKept rs → Comes rs 0
  fails : (k : ℕ) → FirstFails rs (suc k) → Comes rs (suc k)

pub comes : (ws : List Row) (rs : List Rule) → Tell ws rs → Numbered rs → Comes rs (first_row ws)
comes [] [] t n = kept tt
comes [] (r ∷ rs) t n = absurd t
comes (w ∷ ws) [] t n = absurd t
comes (w ∷ ws) (r ∷ rs) t n = go w.broken t.1 w.number t.0 (λ p. comes ws rs (t.2 p) n.1)
  where
    on : r.asks → (k : ℕ) → Comes rs k → Comes (r ∷ rs) k
    on p k (kept a) = kept (p, a)
    on p k (fails j f) = fails j (inr (p, f))

    here : (k : ℕ) → k ≡ r.number → (r.asks → ⊥) → Comes (r ∷ rs) k
    here zero e u = absurd (omega (arith, n.0, e))
    here (suc k) e u = fails k (inl (e, u))

    go : (b : Bool) → Tells b r.asks → (k : ℕ) → k ≡ r.number → (r.asks → Comes rs (first_row ws)) → Comes (r ∷ rs) (or_else b k (first_row ws))
    go true d k e next = here k e (d.up refl)
    go false d k e next = on (d.down refl) (first_row ws) (next (d.down refl))

-- the other way round
pub rows-kept : (ws : List Row) (rs : List Rule) → Tell ws rs → AllKept rs → first_row ws ≡ 0
rows-kept [] [] t a = refl
rows-kept [] (r ∷ rs) t a = absurd t
rows-kept (w ∷ ws) [] t a = absurd t
rows-kept (w ∷ ws) (r ∷ rs) t a = go w.broken t.1 (rows-kept ws rs (t.2 a.0) a.1)
  where
    go : (b : Bool) → Tells b r.asks → first_row ws ≡ 0 → or_else b w.number (first_row ws) ≡ 0
    go true d next = absurd (d.up refl a.0)
    go false d next = next

pub rows-fail : (ws : List Row) (rs : List Rule) (k : ℕ) → Tell ws rs → FirstFails rs k → first_row ws ≡ k
rows-fail [] [] k t f = absurd f
rows-fail [] (r ∷ rs) k t f = absurd t
rows-fail (w ∷ ws) [] k t f = absurd t
rows-fail (w ∷ ws) (r ∷ rs) k t f = ⊎_elim (λ h. here w.broken t.1 h) (λ h. later w.broken t.1 h.0 (rows-fail ws rs k (t.2 h.0) h.1)) f
  where
    here : (b : Bool) → Tells b r.asks → (k ≡ r.number) × (r.asks → ⊥) → or_else b w.number (first_row ws) ≡ k
    here true d h = t.0 ∙ sym h.0
    here false d h = absurd (h.1 (d.down refl))

    later : (b : Bool) → Tells b r.asks → r.asks → first_row ws ≡ k → or_else b w.number (first_row ws) ≡ k
    later true d p next = absurd (d.up refl p)
    later false d p next = next

-- the number of a rule that is not kept is not 0
pub fails-above : (rs : List Rule) (k : ℕ) → Numbered rs → FirstFails rs k → 0 < k
fails-above [] k n f = absurd f
fails-above (r ∷ rs) k n f = ⊎_elim (λ x. omega (arith, n.0, x.0)) (λ x. fails-above rs k n.1 x.1) f

-- one rule at the most is the first that is not kept
pub one-fails : (rs : List Rule) (j k : ℕ) → FirstFails rs j → FirstFails rs k → j ≡ k
one-fails [] j k f g = absurd f
one-fails (r ∷ rs) j k f g =
    ⊎_elim
    (λ x. ⊎_elim (λ y. x.0 ∙ sym y.0) (λ y. absurd (x.1 y.0)) g)
    (λ x. ⊎_elim (λ y. absurd (y.1 x.0)) (λ y. one-fails rs j k x.1 y.1) g)
    f
