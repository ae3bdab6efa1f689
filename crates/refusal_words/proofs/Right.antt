-- What the code's tables say of each number: tests that antt computes, and one law for every group. From `beyond` on there are no words.
use mathlib.Core.Path.{◌≡◌, refl, ap}
use mathlib.Core.Bool.{Bool, true, false}
use mathlib.Core.List.{List, [], ◌∷◌}
use Prim.Native.Nat.{ℕ, ◌+◌, ◌-◌, ◌*◌, ◌≤◌, ◌<◌}
use native.Mathlib.Omega.{arith}
use borrow.Author.Tests.{ne_eqb, ltb-true, ltb-false}
use lib.Dec.{T, ltb, ltb→lt, leb, leb→le}
use lib.ListN.{length, length-append}
use Rattle.text.specs.Put.{Put}
use Rattle.text.specs.Text.{line}
use Rattle.text.proofs.Computed.{both, both_left, both_right, every, below, equal, equal→eq}
use Rattle.name_tables.specs.Tables.{name_at}
use Rattle.refusal_words.specs.Words.{Entry, table, words_in, words_of}
use Rattle.refusal_words.specs.Inner.{Says}

-- above every number of the table
abbrev pub beyond : ℕ
beyond = 96

-- every number of the table is below it
abbrev low_in : List Entry → Bool
low_in [] = true
low_in (e ∷ es) = both (ltb e.number beyond) (low_in es)

past-in : (es : List Entry) (n : ℕ) → T (low_in es) → beyond ≤ n → words_in es n ≡ []
past-in [] n t h = refl
past-in (e ∷ es) n t h =
    let low : e.number < beyond = ltb→lt e.number beyond (both_left (ltb e.number beyond) (low_in es) t) in
    rw (ne_eqb e.number n (λ q. omega arith)) (past-in es n (both_right (ltb e.number beyond) (low_in es) t) h)

pub past : (n : ℕ) → beyond ≤ n → words_of n ≡ []
unfolding words_of
past n h = past-in table n tt h

-- no line has over 72 bytes
most-below : (n : ℕ) → n < beyond → length (words_of n) ≤ 72
unfolding words_of
most-below n h = leb→le (length (words_of n)) 72 (below (λ i. leb (length (words_of i)) 72) beyond tt n h)

most : (n : ℕ) → length (words_of n) ≤ 72
most n = by-test (ltb n beyond) refl
  where
    by-test : (b : Bool) → ltb n beyond ≡ b → length (words_of n) ≤ 72
    by-test true e = most-below n (ltb-true n beyond e)
    by-test false e = rw (past n (ltb-false n beyond e)) (omega arith)

pub most-put : (n : ℕ) {old new : List ℕ} {at r : ℕ} → Put old at (words_of n) r new → r ≤ at + 72
most-put n p = omega (arith, p.next, most n)

-- A GROUP'S TEXT, from its first number on: each row is its number's words
abbrev is_said : ℕ → List ℕ → ℕ → Bool
is_said first t i = equal (line (name_at i t) []) (words_of (first + i))

abbrev pub are_said : ℕ → ℕ → List ℕ → Bool
are_said first many t = every (is_said first t) many

pub row-right : (first many : ℕ) (t : List ℕ) (n : ℕ) → first ≤ n → n < first + many → T (are_said first many t) → Says first n t
row-right first many t n l h w =
    let e : first + (n - first) ≡ n = omega arith in
    let b : T (is_said first t (n - first)) = below (is_said first t) many w (n - first) (omega arith) in
    let c : T (equal (line (name_at (n - first) t) []) (words_of n)) = rw e at b in
    record { words = equal→eq (line (name_at (n - first) t) []) (words_of n) c }

-- and its line
module _ (first n : ℕ) (t : List ℕ) (s : Says first n t) where
  pub row_fits : (at m : ℕ) → at + 72 ≤ m → at + length (name_at (n - first) t) + 21 * 0 + 1 ≤ m
  row_fits at m r = omega (arith, ap length s.words, length-append (name_at (n - first) t) (10 ∷ []), most n)

  pub row_put : {old new : List ℕ} {at r : ℕ} → Put old at (line (name_at (n - first) t) []) r new → Put old at (words_of n) r new
  row_put p = rw s.words at p
