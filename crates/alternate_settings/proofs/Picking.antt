-- What is picked has the fewest bytes of those that hold, and nothing is picked exactly when none does.
use Rattle.std.specs.Prelude.{None, Option, Some}
use Prim.Native.Nat.{ℕ, ◌≤◌, ◌<◌}
use mathlib.Core.Path.{◌≡◌, refl, sym, ap, ◌∙◌}
use mathlib.Core.List.{List, [], ◌∷◌, ◌++◌, append-nil}
use mathlib.Core.Bool.{Bool, true, false}
use mathlib.Core.Logic.{◌⊎◌, inl, inr, ⊎_elim, ◌↔◌}
use lib.ListN.{length, length-append}
use lib.Seq.{append_snoc}
use lib.Dec.{ltb, eqb}
use borrow.Author.Tests.{ltb-true, ltb-false, eqb-true, eqb-false}
use native.Mathlib.Omega.{arith}
use Rattle.rules.specs.IfElse.{if_else}
use Rattle.rules.proofs.Firsts.{lt-or-ge}
use Rattle.rules.proofs.Growing.{at_old, at_new}
use Rattle.alternate_settings.specs.Inner.{is_better, against, better_of, fewest_from, fewest_of}
use Rattle.alternate_settings.specs.Holding.{no_setting, Holds, Fewest, NoneHolds}
use Rattle.alternate_settings.specs.declared.Setting.{Setting}

-- ---- one setting more
module _ (l : List Setting) (x : Setting) (p : ℕ) where
  old : (y : Setting) → Holds l p y → Holds (l ++ (x ∷ [])) p y
  old y h = record { place = h.place; inside = simp length-append (omega (arith, h.inside)); same = at_old no_setting l x h.place h.inside ∙ h.same; enough = h.enough }

  new : p ≤ x.bytes → Holds (l ++ (x ∷ [])) p x
  new h =
      let b : length l < length (l ++ (x ∷ [])) = simp length-append (omega arith) in
      record { place = length l; inside = b; same = at_new no_setting l x (length l) (omega arith) b; enough = h }

  either : (y : Setting) → Holds (l ++ (x ∷ [])) p y → Holds l p y ⊎ (x ≡ y)
  either y h =
      ⊎_elim (λ b. inl (record { place = h.place; inside = b; same = sym (at_old no_setting l x h.place b) ∙ h.same; enough = h.enough }))
      (λ b. inr (sym (at_new no_setting l x h.place b h.inside) ∙ h.same)) (lt-or-ge h.place (length l))

-- no more bytes than the other, and on a tie no higher number
abbrev NotWorse : Setting → Setting → Type 0
NotWorse x y = (x.bytes < y.bytes) ⊎ ((x.bytes ≡ y.bytes) × (x.number ≤ y.number))

same-one : (x y : Setting) → x ≡ y → NotWorse x y
same-one x y e = inr (ap (λ (z : Setting). z.bytes) e, (let q : x.number ≡ y.number = ap (λ (z : Setting). z.number) e in omega arith))

through : (x y z : Setting) → NotWorse x y → NotWorse y z → NotWorse x z
through x y z a b =
    ⊎_elim (λ p. ⊎_elim (λ q. inl (omega arith)) (λ q. inl (omega (arith, q.0))) b)
    (λ p. ⊎_elim (λ q. inl (omega (arith, p.0))) (λ q. inr (p.0 ∙ q.0, omega (arith, p.1, q.1))) b) a

better-is : (x y : Setting) → is_better x y ≡ true → NotWorse x y
unfolding is_better if_else
better-is x y h = go (eqb x.bytes y.bytes) refl h
  where
    go : (b : Bool) → eqb x.bytes y.bytes ≡ b → if_else b (ltb x.number y.number) (ltb x.bytes y.bytes) ≡ true → NotWorse x y
    go true e q = inr (eqb-true _ _ e, (let n = ltb-true x.number y.number q in omega arith))
    go false e q = inl (ltb-true x.bytes y.bytes q)

not-better : (x y : Setting) → is_better x y ≡ false → NotWorse y x
unfolding is_better if_else
not-better x y h = go (eqb x.bytes y.bytes) refl h
  where
    go : (b : Bool) → eqb x.bytes y.bytes ≡ b → if_else b (ltb x.number y.number) (ltb x.bytes y.bytes) ≡ false → NotWorse y x
    go true e q = inr (sym (eqb-true _ _ e), ltb-false x.number y.number q)
    go false e q = let n = eqb-false x.bytes y.bytes e in let m = ltb-false x.bytes y.bytes q in inl (omega (arith, n))

-- ---- the best of a list
data BestOf (l : List Setting) (p : ℕ) : Option Setting → Type 0 where
  none : NoneHolds l p → BestOf l p None
  best : (x : Setting) → Fewest l p x → BestOf l p (Some x)

module _ (l : List Setting) (p : ℕ) (x : Setting) where
  module _ (h : x.bytes < p) where
    small : (y : Setting) → x ≡ y → Holds (l ++ (x ∷ [])) p y → ⊥
    small y e w = let q : x.bytes ≡ y.bytes = ap (λ (z : Setting). z.bytes) e in omega (arith, w.enough)

    passes : (c : Option Setting) → BestOf l p c → BestOf (l ++ (x ∷ [])) p c
    passes c (none n) = none (λ y w. ⊎_elim (n y) (λ e. small y e w) (either l x p y w))
    passes c (best z f) = best z (record { holds = old l x p z f.holds; least = λ y w. ⊎_elim (f.least y) (λ e. absurd (small y e w)) (either l x p y w) })

  module _ (h : p ≤ x.bytes) where
    takes : (c : Option Setting) → BestOf l p c → BestOf (l ++ (x ∷ [])) p (against c x)
    unfolding against if_else
    takes c (none n) = best x (record { holds = new l x p h; least = λ y w. ⊎_elim (λ o. absurd (n y o)) (same-one x y) (either l x p y w) })
    takes c (best z f) = go (is_better x z) refl
      where
        go : (b : Bool) → is_better x z ≡ b → BestOf (l ++ (x ∷ [])) p (if_else b (Some x) (Some z))
        go true e = best x (record { holds = new l x p h; least = λ y w. ⊎_elim (λ o. through x z y (better-is x z e) (f.least y o)) (same-one x y) (either l x p y w) })
        go false e = best z (record { holds = old l x p z f.holds; least = λ y w. ⊎_elim (f.least y) (λ q. through z x y (not-better x z e) (same-one x y q)) (either l x p y w) })

  one_more : (c : Option Setting) → BestOf l p c → BestOf (l ++ (x ∷ [])) p (better_of p c x)
  unfolding better_of if_else
  one_more c w = go (ltb x.bytes p) refl
    where
      go : (b : Bool) → ltb x.bytes p ≡ b → BestOf (l ++ (x ∷ [])) p (if_else b c (against c x))
      go true e = passes (ltb-true x.bytes p e) c w
      go false e = takes (ltb-false x.bytes p e) c w

best-from : (l m : List Setting) (p : ℕ) (c : Option Setting) → BestOf l p c → BestOf (l ++ m) p (fewest_from p c m)
unfolding fewest_from
best-from l [] p c w = rw append-nil w
best-from l (x ∷ m) p c w = rw append_snoc at (best-from (l ++ (x ∷ [])) m p (better_of p c x) (one_more l p x c w))

alike : (a b c d : ℕ) → a ≡ c → b ≡ d → ◌≡◌ {A = Setting} (record { number = a; bytes = b }) (record { number = c; bytes = d })
alike a b c d p q = rw (p, q)

module _ (l : List Setting) (p : ℕ) where
  the-best : BestOf l p (fewest_of p l)
  the-best = best-from [] l p None (none (λ y h. omega (arith, h.inside)))

  -- one setting at the most has the fewest
  pub one-fewest : (x y : Setting) → Fewest l p x → Fewest l p y → x ≡ y
  one-fewest x y f g = go (f.least y g.holds) (g.least x f.holds)
    where
      go : NotWorse x y → NotWorse y x → x ≡ y
      go (inl a) (inl b) = absurd (omega arith)
      go (inl a) (inr b) = absurd (omega (arith, b.0))
      go (inr a) (inl b) = absurd (omega (arith, a.0))
      go (inr a) (inr b) = alike x.number x.bytes y.number y.bytes (omega (arith, a.1, b.1)) a.0

  apart : (x : Setting) → None ≡ Some x → ⊥
  apart x e = let z : ◌≡◌ {A = ℕ} 0 1 = cc in omega arith

  -- EXACTLY WHEN: nothing, where none holds
  pub nothing-exactly : (fewest_of p l ≡ None) ↔ NoneHolds l p
  nothing-exactly = (to (fewest_of p l) the-best, from (fewest_of p l) the-best)
    where
      to : (c : Option Setting) → BestOf l p c → c ≡ None → NoneHolds l p
      to c (none n) e = n
      to c (best x f) e = absurd (apart x (sym e))

      from : (c : Option Setting) → BestOf l p c → NoneHolds l p → c ≡ None
      from c (none n) h = refl
      from c (best x f) h = absurd (h x f.holds)

  -- a setting, where it has the fewest
  pub fewest-exactly : (x : Setting) → (fewest_of p l ≡ Some x) ↔ Fewest l p x
  fewest-exactly x = (to (fewest_of p l) the-best, from (fewest_of p l) the-best)
    where
      to : (c : Option Setting) → BestOf l p c → c ≡ Some x → Fewest l p x
      to c (none n) e = absurd (apart x e)
      to c (best z f) e = let q : z ≡ x = cc in rw q at f

      from : (c : Option Setting) → BestOf l p c → Fewest l p x → c ≡ Some x
      from c (none n) h = absurd (n x h.holds)
      from c (best z f) h = rw (one-fewest z x f h)
