-- Copying by moves: what one by way of an array writes, and how far src is laid. Moves may overlap.
use mathlib.Core.Path.{◌≡◌, refl, sym, ap, ◌∙◌}
use mathlib.Core.List.{List, [], ◌++◌, append-nil}
use Prim.Native.Nat.{ℕ, ◌+◌, ◌*◌, ◌-◌, ◌≤◌}
use native.Mathlib.Omega.{arith}
use native.Mathlib.Nat.{zero-add}
use lib.ListN.{length, take, drop, length-drop, drop_of_length-le, take-append-drop}
use lib.Seq.{paste, take-take, take-add, drop-drop, take-paste, drop-paste, length-paste, length-take-le}

-- w bytes of src from i on go to an array of w bytes, and from there to their place in x
pub by_way_of : (x s z a y : List ℕ) (i w : ℕ) → i + w ≤ length s → length z ≡ w →
    a ≡ take (length (take (i + w - i) (drop i s))) (take (i + w - i) (drop i s)) ++ drop (length (take (i + w - i) (drop i s))) z →
    y ≡ paste x i a (length a) → y ≡ paste x i (drop i s) w
by_way_of x s z a y i w h l e f =
    let t = take w (drop i s) in
    let n : i + w - i ≡ w = omega arith in
    let k : length t ≡ w = length-take-le w (drop i s) (rw length-drop (omega arith)) in
    let again : take w t ≡ t = take-take w w (drop i s) (omega arith) in
    let none : drop w z ≡ [] = drop_of_length-le z {i = w} (omega arith) in
    let held : a ≡ t = rw (n, k, again, none, append-nil) at e in
    rw (held, k, again) at f

-- x is src up to i, and from src's end on what d is
pub record Laid (d s x : List ℕ) (i : ℕ) : Type 0 where
  pub done : take i x ≡ take i s
  pub rest : drop (length s) x ≡ drop (length s) d
  pub size : length x ≡ length d

pub laid_none : (d s : List ℕ) → Laid d s d 0
laid_none d s = record { done = refl; rest = refl; size = refl }

module _ (d s x : List ℕ) (i : ℕ) (u : Laid d s x i) where
  pub laid-less : (j : ℕ) → j ≤ i → Laid d s x j
  laid-less j h =
      record { done = sym (take-take j i x h) ∙ ap (take j) u.done ∙ take-take j i s h; rest = u.rest; size = u.size }

  -- a move that starts no later than what is laid
  pub laid_more : length s ≤ length x → (y : List ℕ) (p w : ℕ) → p ≤ i → p + w ≤ length s → y ≡ paste x p (drop p s) w → Laid d s y (p + w)
  laid_more fits y p w h l e =
      let m : w ≤ length (drop p s) = rw length-drop (omega arith) in
      let q : p ≤ length x = omega arith in
      let k = length s - (p + w) in
      let n : p + w + k ≡ length s = omega arith in
      let behind : drop (p + w) y ≡ drop (p + w) x = ap (drop (p + w)) e ∙ drop-paste x p (drop p s) w q m in
      record {
        done = ap (take (p + w)) e ∙ take-paste x p (drop p s) w q m ∙ ap (λ (r : List ℕ). r ++ take w (drop p s)) (laid-less p h).done ∙ sym (take-add p w s);
        rest = rw n at (sym (drop-drop k (p + w) y) ∙ ap (drop k) behind ∙ drop-drop k (p + w) x) ∙ u.rest;
        size = ap length e ∙ length-paste x p (drop p s) w (omega arith) m ∙ u.size;
      }

  -- as it stands, and going on from there
  pub laid-here : Laid x s x i
  laid-here = record { done = u.done; rest = refl; size = refl }

  pub laid_on : (y : List ℕ) (j : ℕ) → Laid x s y j → Laid d s y j
  laid_on y j v = record { done = v.done; rest = v.rest ∙ u.rest; size = v.size ∙ u.size }

  pub laid-all : length s ≤ i → x ≡ paste d 0 s (length s)
  laid-all h =
      let n = length s in
      sym (take-append-drop n x)
      ∙ ap (λ (r : List ℕ). r ++ drop n x) (laid-less n h).done
      ∙ ap (λ (r : List ℕ). take n s ++ r) u.rest
      ∙ ap (λ (k : ℕ). take n s ++ drop k d) (sym (zero-add n))

-- a move from the front
pub first : (d s x : List ℕ) (w : ℕ) → length s ≤ length d → w ≤ length s → x ≡ paste d 0 (drop 0 s) w → Laid d s x w
first d s x w fits h e = let z : 0 + w ≡ w = omega arith in rw z at (laid_more d s d 0 (laid_none d s) fits x 0 w (omega arith) (omega arith) e)

-- two moves of 16 bytes from the front, and two up to the end
pub four : (d s x y z r : List ℕ) (m : ℕ) → x ≡ paste d 0 (drop 0 s) 16 → y ≡ paste x m (drop m s) 16
    → z ≡ paste y (length s - 16 - m) (drop (length s - 16 - m) s) 16 → r ≡ paste z (length s - 16) (drop (length s - 16) s) 16
    → length s ≤ length d → m ≤ 16 → m + 16 ≤ length s → length s ≤ 32 + 2 * m → r ≡ paste d 0 s (length s)
four d s x y z r m e₁ e₂ e₃ e₄ fits h l f =
    let u₁ = first d s x 16 fits (omega arith) e₁ in
    let u₂ = laid_more d s x 16 u₁ (omega (arith, u₁.size)) y m 16 h l e₂ in
    let u₃ = laid_more d s y (m + 16) u₂ (omega (arith, u₂.size)) z (length s - 16 - m) 16 (omega arith) (omega arith) e₃ in
    let u₄ = laid_more d s z (length s - 16 - m + 16) u₃ (omega (arith, u₃.size)) r (length s - 16) 16 (omega arith) (omega arith) e₄ in
    laid-all d s r (length s - 16 + 16) u₄ (omega arith)
