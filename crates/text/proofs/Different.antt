-- Lines that print alike have the same numbers.
use mathlib.Core.Path.{◌≡◌, refl, sym, ap, ◌∙◌}
use mathlib.Core.List.{List, [], ◌∷◌, ◌++◌, append_assoc, append_cancel_left}
use Prim.Native.Nat.{ℕ, ◌<◌}
use native.Mathlib.Omega.{arith}
use lib.ListN.{length, take, drop, length-take, length-drop, take-append-drop}
use Rattle.text.specs.Decimal.{decimal}
use Rattle.text.specs.Text.{Row, texts, number, numbers, line, lines, total}
use Rattle.text.proofs.Values.{AllDigits, spells, decimal-different}

-- a list that begins below the digits: with a space or a line end
abbrev pub Low : List ℕ → Type 0
Low [] = ⊥
Low (c ∷ u) = c < 48

-- where digits end is where they end on both sides
split : (xs ys s t : List ℕ) → AllDigits xs → AllDigits ys → Low s → Low t → xs ++ s ≡ ys ++ t → (xs ≡ ys) × (s ≡ t)
split [] [] s t p q l m e = (refl, e)
split [] (y ∷ ys) [] t p q l m e = absurd l
split [] (y ∷ ys) (c ∷ u) t p q l m e = let z : c ≡ y = cc in absurd (omega (arith, q.0))
split (x ∷ xs) [] s [] p q l m e = absurd m
split (x ∷ xs) [] s (d ∷ v) p q l m e = let z : x ≡ d = cc in absurd (omega (arith, p.0))
split (x ∷ xs) (y ∷ ys) s t p q l m e =
    let h : x ≡ y = cc in
    let r : xs ++ s ≡ ys ++ t = cc in
    let k : (xs ≡ ys) × (s ≡ t) = split xs ys s t p.2 q.2 l m r in
    (rw (h, k.0), k.1)

low-numbers : (ns r : List ℕ) → Low (numbers ns ++ (10 ∷ r))
low-numbers [] r = omega arith
low-numbers (n ∷ ns) r = omega arith

-- a number, and what follows it
pub number-split : (n m : ℕ) (s t : List ℕ) → Low s → Low t → number n ++ s ≡ number m ++ t → (n ≡ m) × (s ≡ t)
number-split n m s t l k e =
    let r : decimal n ++ s ≡ decimal m ++ t = cc in
    let h : (decimal n ≡ decimal m) × (s ≡ t) = split (decimal n) (decimal m) s t (spells n).all (spells m).all l k r in
    (decimal-different n m h.0, h.1)

numbers-split : (ns ms s t : List ℕ) → length ns ≡ length ms → numbers ns ++ (10 ∷ s) ≡ numbers ms ++ (10 ∷ t) → (ns ≡ ms) × (s ≡ t)
numbers-split [] [] s t h e = (refl, cc)
numbers-split [] (m ∷ ms) s t h e = absurd (omega arith)
numbers-split (n ∷ ns) [] s t h e = absurd (omega arith)
numbers-split (n ∷ ns) (m ∷ ms) s t h e =
    let r : number n ++ (numbers ns ++ (10 ∷ s)) ≡ number m ++ (numbers ms ++ (10 ∷ t))
    = sym (append_assoc (number n) (numbers ns) (10 ∷ s)) ∙ (e ∙ append_assoc (number m) (numbers ms) (10 ∷ t)) in
    let k : (n ≡ m) × (numbers ns ++ (10 ∷ s) ≡ numbers ms ++ (10 ∷ t))
    = number-split n m (numbers ns ++ (10 ∷ s)) (numbers ms ++ (10 ∷ t)) (low-numbers ns s) (low-numbers ms t) r in
    let w : (ns ≡ ms) × (s ≡ t) = numbers-split ns ms s t (omega arith) k.1 in
    (rw (k.0, w.0), w.1)

line-then : (name ns s : List ℕ) → line name ns ++ s ≡ name ++ (numbers ns ++ (10 ∷ s))
line-then name ns s = append_assoc name (numbers ns ++ (10 ∷ [])) s ∙ ap (λ (l : List ℕ). name ++ l) (append_assoc (numbers ns) (10 ∷ []) s)

pub line-split : (name ns ms s t : List ℕ) → length ns ≡ length ms → line name ns ++ s ≡ line name ms ++ t → (ns ≡ ms) × (s ≡ t)
line-split name ns ms s t h e =
    numbers-split ns ms s t h
    (append_cancel_left name (numbers ns ++ (10 ∷ s)) (numbers ms ++ (10 ∷ t)) (sym (line-then name ns s) ∙ (e ∙ line-then name ms t)))

empty : (ns : List ℕ) → length ns ≡ 0 → ns ≡ []
empty [] h = refl
empty (n ∷ ns) h = absurd (omega arith)

-- the lines of some rows, and what follows them
pub lines_split : (rs : List Row) (ns ms s t : List ℕ) → length ns ≡ total rs → length ms ≡ total rs → lines rs ns ++ s ≡ lines rs ms ++ t → (ns ≡ ms) × (s ≡ t)
lines_split [] ns ms s t h k e = (empty ns h ∙ sym (empty ms k), e)
lines_split (r ∷ rs) ns ms s t h k e =
    let c = r.count in
    let a = line r.name (take c ns) in
    let b = line r.name (take c ms) in
    let x = lines rs (drop c ns) in
    let y = lines rs (drop c ms) in
    let w : (take c ns ≡ take c ms) × (x ++ s ≡ y ++ t) =
    line-split r.name (take c ns) (take c ms) (x ++ s) (y ++ t) (simp length-take (omega arith)) (sym (append_assoc a x s) ∙ (e ∙ append_assoc b y t)) in
    let d : (drop c ns ≡ drop c ms) × (s ≡ t) = lines_split rs (drop c ns) (drop c ms) s t (simp length-drop (omega arith)) (simp length-drop (omega arith)) w.1 in
    (sym (take-append-drop c ns) ∙ (rw (w.0, d.0) (take-append-drop c ms)), d.1)

pub lines-different : (rs : List Row) (ns ms : List ℕ) → length ns ≡ total rs → length ms ≡ total rs → lines rs ns ≡ lines rs ms → ns ≡ ms
lines-different rs ns ms h k e = (lines_split rs ns ms [] [] h k (ap (◌++ []) e)).0

-- LISTS OF LINES tell their things: where a line tells its thing and what follows it, and what follows the last line begins with no such line
module _ {A : Type 0} (f : A → List ℕ) (each : (x y : A) (s t : List ℕ) → f x ++ s ≡ f y ++ t → (x ≡ y) × (s ≡ t)) where
  abbrev pub Ends : List ℕ → Type 0
  Ends s = (x : A) (u : List ℕ) → f x ++ u ≡ s → ⊥

  pub texts-different : (xs ys : List A) (s t : List ℕ) → Ends s → Ends t → texts f xs ++ s ≡ texts f ys ++ t → (xs ≡ ys) × (s ≡ t)
  texts-different [] [] s t h k e = (refl, e)
  texts-different [] (y ∷ ys) s t h k e = absurd (h y (texts f ys ++ t) (sym (e ∙ append_assoc (f y) (texts f ys) t)))
  texts-different (x ∷ xs) [] s t h k e = absurd (k x (texts f xs ++ s) (sym (append_assoc (f x) (texts f xs) s) ∙ e))
  texts-different (x ∷ xs) (y ∷ ys) s t h k e =
      let r : f x ++ (texts f xs ++ s) ≡ f y ++ (texts f ys ++ t) = sym (append_assoc (f x) (texts f xs) s) ∙ (e ∙ append_assoc (f y) (texts f ys) t) in
      let one : (x ≡ y) × (texts f xs ++ s ≡ texts f ys ++ t) = each x y (texts f xs ++ s) (texts f ys ++ t) r in
      let rest : (xs ≡ ys) × (s ≡ t) = texts-different xs ys s t h k one.1 in
      (rw (one.0, rest.0), rest.1)
