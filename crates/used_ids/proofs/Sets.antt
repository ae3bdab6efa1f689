-- Marks are a set: none has no ID, and one ID more is in it beside those that were. Whoever marks IDs cites these laws and opens no definition.
use Prim.Native.Nat.{ℕ, ◌/◌, ◌%◌, ◌<◌}
use mathlib.Core.Path.{◌≡◌, refl, sym, ap, ◌∙◌}
use mathlib.Core.List.{List}
use mathlib.Core.Bool.{Bool, true, false, ◌||◌, or-false}
use native.Mathlib.Omega.{arith}
use lib.ListN.{length, get_or, set, get_or-replicate, length-set}
use lib.Seq.{get_or-set_same, get_or-set_other}
use lib.Dec.{eqb}
use borrow.Author.Tests.{eq-eqb, ne_eqb, eqb-true, eqb-false}
use Rattle.bits.specs.Bits.{width, has_bit, with_bit}
use Rattle.bits.proofs.Bits.{bit-zero, with-has}
use Rattle.used_ids.specs.Marks.{words, word_of, no_marks, marked, with_mark}

-- what a list of marks is held to
unfoldable pub Good : List ℕ → Type 0
Good m = length m ≡ words

pub good_none : Good no_marks
unfolding Good no_marks
good_none = refl

pub good-with : (m : List ℕ) (i : ℕ) → Good m → Good (with_mark m i)
unfolding Good with_mark
good-with m i g = length-set m (i / width) (with_bit (word_of m i) (i % width)) ∙ g

pub none-marked : (i : ℕ) → i < 256 → marked no_marks i ≡ false
unfolding marked no_marks
none-marked i h = rw (get_or-replicate {A = ℕ} words (i / width) 0 0 (omega arith), bit-zero (i % width))

-- two IDs whose bits stand in one word at one place are one
one_place : (i j : ℕ) → i / width ≡ j / width → eqb (i % width) (j % width) ≡ eqb i j
one_place i j e = go (eqb i j) refl
  where
    go : (b : Bool) → eqb i j ≡ b → eqb (i % width) (j % width) ≡ eqb i j
    go true q = let k : i ≡ j = eqb-true i j q in rw q (eq-eqb (i % width) (j % width) (ap (λ (x : ℕ). x % width) k))
    go false q = rw q (ne_eqb (i % width) (j % width) (λ p. eqb-false i j q (omega arith)))

pub with-marked : (m : List ℕ) (i j : ℕ) → Good m → i < 256 → j < 256 → marked (with_mark m i) j ≡ (marked m j || eqb i j)
unfolding marked with_mark Good
with-marked m i j g h _ = go (eqb (i / width) (j / width)) refl
  where
    word : ℕ
    word = with_bit (word_of m i) (i % width)

    within : i / width < length m
    within = rw g (omega arith)

    go : (b : Bool) → eqb (i / width) (j / width) ≡ b → has_bit (get_or (set m (i / width) word) (j / width) 0) (j % width) ≡ (has_bit (get_or m (j / width) 0) (j % width) || eqb i j)
    go true e =
        let q : i / width ≡ j / width = eqb-true (i / width) (j / width) e in
        rw (← q, get_or-set_same m (i / width) word 0 within, with-has (word_of m i) (i % width) (j % width), one_place i j q)
    go false e =
        let n : i / width ≡ j / width → ⊥ = eqb-false (i / width) (j / width) e in
        rw (get_or-set_other m (i / width) (j / width) word 0 (λ q. n (sym q)), ne_eqb i j (λ q. n (ap (λ (x : ℕ). x / width) q)), or-false)
