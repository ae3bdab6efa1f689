-- A line for each name: nothing yet, one line more, all of them.
use mathlib.Core.Path.{◌≡◌, refl, sym, ap, subst, ◌∙◌}
use mathlib.Core.Bool.{Bool, true, false, ◌&&◌}
use mathlib.Core.List.{List, [], ◌∷◌, ◌++◌, append_assoc, append-nil}
use Prim.Native.Nat.{ℕ, ◌+◌, ◌-◌, ◌*◌, ◌≤◌, ◌<◌}
use native.Mathlib.Nat.{sub-zero}
use native.Mathlib.Numerals.{add-one}
use native.Mathlib.Omega.{arith}
use lib.Dec.{T, ltb, ltb→lt, leb, leb→le}
use lib.ListN.{length, take, drop, get_or, length-take, length-drop}
use lib.Seq.{drop-cons, drop-drop}
use Rattle.text.specs.Put.{Put}
use Rattle.text.specs.Text.{line, lines}
use Rattle.text.proofs.Puts.{then}
use Rattle.text.proofs.Texts.{none}
use Rattle.name_tables.specs.Tables.{name_length, rest, rows_of, is_enough, Enough}
use Rattle.name_tables.proofs.Names.{drop_all, rest_from, first-from}
use Rattle.name_tables.specs.Inner.{Ends}

-- n numbers are enough where m are
pub enough : (t cs : List ℕ) (n m : ℕ) → n ≡ m → T (is_enough t cs m) → Enough t cs n
enough t cs n m e w = record { each = subst (λ (k : ℕ). T (is_enough t cs k)) (sym e) w }

-- i lines are put: `name` is where the next name begins, `from` where its numbers do
pub record Prints (old : List ℕ) (start : ℕ) (t cs ns : List ℕ) (at name from i : ℕ) (new : List ℕ) : Type 0 where
  pub within : name ≤ length t
  pub numbers : from ≤ length ns
  pub room : at ≤ start + name + 21 * from
  pub enough : T (is_enough (drop name t) (drop i cs) (length ns - from))
  pub done : List ℕ
  pub put : Put old start done at new
  pub left : lines (rows_of t cs) ns ≡ done ++ lines (rows_of (drop name t) (drop i cs)) (drop from ns)

pub begin : (old : List ℕ) (start : ℕ) (t cs ns : List ℕ) → start ≤ length old → Enough t cs (length ns) → Prints old start t cs ns start 0 0 0 old
begin old start t cs ns h e =
    record { within = omega arith; numbers = omega arith; room = omega arith; enough = simp sub-zero e.each; done = []; put = none old start h; left = refl }

and_left : (a b : Bool) → T (a && b) → T a
and_left true b t = tt
and_left false b t = t

and_right : (a b : Bool) → T (a && b) → T b
and_right true b t = t
and_right false b t = absurd t

-- what is enough for a row and the others
module _ (t cs : List ℕ) (c n : ℕ) (e : T (is_enough t (c ∷ cs) n)) where
  named : name_length t < length t
  named = ltb→lt (name_length t) (length t) (and_left (ltb (name_length t) (length t)) (leb c n && is_enough (rest t) cs (n - c)) e)

  behind-name : T (leb c n && is_enough (rest t) cs (n - c))
  behind-name = and_right (ltb (name_length t) (length t)) (leb c n && is_enough (rest t) cs (n - c)) e

  counted : c ≤ n
  counted = leb→le c n (and_left (leb c n) (is_enough (rest t) cs (n - c)) behind-name)

  for-others : T (is_enough (rest t) cs (n - c))
  for-others = and_right (leb c n) (is_enough (rest t) cs (n - c)) behind-name

-- the next row: its name ends at r
module _ {old : List ℕ} {start : ℕ} {t cs ns : List ℕ} {at name from i : ℕ} {mid : List ℕ} (p : Prints old start t cs ns at name from i mid) (h : i < length cs) where
  next-count : drop i cs ≡ get_or cs i 0 ∷ drop (i + 1) cs
  next-count = rw (add-one i) (drop-cons cs i 0 h)

  row-enough : T (is_enough (drop name t) (get_or cs i 0 ∷ drop (i + 1) cs) (length ns - from))
  row-enough = subst (λ (l : List ℕ). T (is_enough (drop name t) l (length ns - from))) next-count p.enough

  pub in-names : (r : ℕ) → Ends t name r → r < length t
  in-names r e = omega (arith, e.here, p.within, length-drop name t, named (drop name t) (drop (i + 1) cs) (get_or cs i 0) (length ns - from) row-enough)

  pub in-numbers : from + get_or cs i 0 ≤ length ns
  in-numbers = omega (arith, p.numbers, counted (drop name t) (drop (i + 1) cs) (get_or cs i 0) (length ns - from) row-enough)

  pub line-fits : (r : ℕ) → Ends t name r → start + length t + 21 * length ns ≤ length old
      → at + length (take (r - name) (drop name t)) + 21 * length (take (from + get_or cs i 0 - from) (drop from ns)) + 1 ≤ length mid
  line-fits r e m =
      omega
      (arith, p.room, p.put.size, in-names r e, in-numbers, e.here, length-take (r - name) (drop name t), length-take (from + get_or cs i 0 - from) (drop from ns), length-drop name t, length-drop from ns)

  -- one line more
  module _ (r : ℕ) (e : Ends t name r) where
    others-enough : T (is_enough (drop (r + 1) t) (drop (i + 1) cs) (length ns - (from + get_or cs i 0)))
    others-enough =
        let s : length ns - from - get_or cs i 0 ≡ length ns - (from + get_or cs i 0) = omega arith in
        let q : T (is_enough (rest (drop name t)) (drop (i + 1) cs) (length ns - from - get_or cs i 0)) = for-others (drop name t) (drop (i + 1) cs) (get_or cs i 0) (length ns - from) row-enough in
        rw (rest_from t name r e, s) at q

    row-text : lines (rows_of (drop name t) (drop i cs)) (drop from ns)
        ≡ line (take (r - name) (drop name t)) (take (from + get_or cs i 0 - from) (drop from ns)) ++ lines (rows_of (drop (r + 1) t) (drop (i + 1) cs)) (drop (from + get_or cs i 0) ns)
    row-text =
        let s : from + get_or cs i 0 - from ≡ get_or cs i 0 = omega arith in
        rw (next-count, s, first-from t name r e, ← rest_from t name r e, ← drop-drop (get_or cs i 0) from ns)

    pub line-more : (q : ℕ) {new : List ℕ} → q ≤ at + length (take (r - name) (drop name t)) + 21 * length (take (from + get_or cs i 0 - from) (drop from ns)) + 1
        → Put mid at (line (take (r - name) (drop name t)) (take (from + get_or cs i 0 - from) (drop from ns))) q new → Prints old start t cs ns q (r + 1) (from + get_or cs i 0) (i + 1) new
    line-more q m u =
        let text : List ℕ = line (take (r - name) (drop name t)) (take (from + get_or cs i 0 - from) (drop from ns)) in
        let after : List ℕ = lines (rows_of (drop (r + 1) t) (drop (i + 1) cs)) (drop (from + get_or cs i 0) ns) in
        record {
          within = omega (arith, in-names r e);
          numbers = in-numbers;
          room = omega (arith, p.room, in-numbers, in-names r e, e.here, length-take (r - name) (drop name t), length-take (from + get_or cs i 0 - from) (drop from ns), length-drop name t, length-drop from ns);
          enough = others-enough;
          done = p.done ++ text;
          put = then p.put u;
          left = p.left ∙ ap (λ (l : List ℕ). p.done ++ l) row-text ∙ sym (append_assoc p.done text after);
        }

-- all of them
pub all : (old : List ℕ) (start : ℕ) (t cs ns : List ℕ) (at name from i : ℕ) (new : List ℕ) → Prints old start t cs ns at name from i new → length cs ≤ i → Put old start (lines (rows_of t cs) ns) at new
all old start t cs ns at name from i new p h =
    subst (λ (l : List ℕ). Put old start l at new) (sym (p.left ∙ ap (λ (l : List ℕ). p.done ++ lines (rows_of (drop name t) l) (drop from ns)) (drop_all i cs h) ∙ append-nil p.done)) p.put
