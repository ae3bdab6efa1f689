-- EACH NUMBER FOR BLOCKS HAS WORDS, no other number has, and no two numbers have the same.
use mathlib.Core.Path.{◌≡◌, refl, sym, ap, subst, ◌∙◌}
use mathlib.Core.Bool.{Bool, true, false, ◌||◌, ◌&&◌}
use mathlib.Core.List.{List, [], ◌∷◌, ◌++◌}
use Prim.Native.Nat.{ℕ, ◌≤◌, ◌<◌}
use native.Mathlib.Omega.{arith}
use borrow.Author.Tests.{ltb-true, ltb-false, lt-leb}
use lib.Dec.{T, eqb, eqb→eq, ltb, leb, leb→le}
use lib.ListN.{length}
use Rattle.text.specs.Text.{bytes}
use Rattle.text.proofs.Computed.{below, equal}
use Rattle.text.proofs.Texts.{none}
use Rattle.text.specs.Put.{Put}
use Rattle.refusal_words.specs.Words.{Entry, table, words_of}
use Rattle.refusal_words.proofs.Right.{beyond, past}

abbrev pub between : ℕ → ℕ → ℕ → Bool
between least most n = leb n most && leb least n

-- the numbers of documents 01 and 02 for a control block, a streaming block, a probe block, a configuration and a setting
abbrev pub for_blocks : ℕ → Bool
for_blocks n = between 1 16 n || (between 20 46 n || (between 70 75 n || (between 80 82 n || between 90 95 n)))

abbrev pub some : List ℕ → Bool
some [] = false
some (x ∷ xs) = true

abbrev alike : Bool → Bool → Bool
alike true b = b
alike false true = false
alike false false = true

alike→eq : (a b : Bool) → T (alike a b) → a ≡ b
alike→eq true true t = refl
alike→eq true false t = absurd t
alike→eq false true t = absurd t
alike→eq false false t = refl

low : (n : ℕ) → n < beyond → some (words_of n) ≡ for_blocks n
unfolding words_of
low n h = alike→eq (some (words_of n)) (for_blocks n) (below (λ i. alike (some (words_of i)) (for_blocks i)) beyond tt n h)

high : (n : ℕ) → beyond ≤ n → some (words_of n) ≡ for_blocks n
high n h = rw (past n h, lt-leb n 16 (omega arith), lt-leb n 46 (omega arith), lt-leb n 75 (omega arith), lt-leb n 82 (omega arith), lt-leb n 95 (omega arith))

pub words-exactly : (n : ℕ) → some (words_of n) ≡ for_blocks n
words-exactly n = by-test (ltb n beyond) refl
  where
    by-test : (b : Bool) → ltb n beyond ≡ b → some (words_of n) ≡ for_blocks n
    by-test true e = low n (ltb-true n beyond e)
    by-test false e = high n (ltb-false n beyond e)

-- of any other number nothing is put
quiet : (l : List ℕ) → some l ≡ false → l ≡ []
quiet [] e = refl
quiet (x ∷ xs) e = absurd (subst T e tt)

outside : (least most n : ℕ) → (n ≤ most → least ≤ n → ⊥) → between least most n ≡ false
outside least most n h = by_tests (leb n most) (leb least n) refl refl
  where
    by_tests : (a b : Bool) → leb n most ≡ a → leb least n ≡ b → a && b ≡ false
    by_tests false b e f = refl
    by_tests true false e f = refl
    by_tests true true e f = absurd (h (leb→le n most (subst T (sym e) tt)) (leb→le least n (subst T (sym f) tt)))

pub none_other : (n : ℕ) (old : List ℕ) (at : ℕ) → at ≤ length old → (n ≤ 16 → 1 ≤ n → ⊥) → (n ≤ 46 → 20 ≤ n → ⊥) → (n ≤ 75 → 70 ≤ n → ⊥) → (n ≤ 82 → 80 ≤ n → ⊥) → (n ≤ 95 → 90 ≤ n → ⊥) → Put old at (words_of n) at old
none_other n old at h c s w d g =
    let f : for_blocks n ≡ false = rw (outside 1 16 n c, outside 20 46 n s, outside 70 75 n w, outside 80 82 n d) (outside 90 95 n g) in
    rw (quiet (words_of n) (words-exactly n ∙ f)) (none old at h)

-- the number that has these words
abbrev number_by : Bool → ℕ → (Unit {0} → ℕ) → ℕ
number_by true n more = n
number_by false n more = more tt

abbrev number_in : List Entry → List ℕ → ℕ
number_in [] l = 0
number_in (e ∷ es) l = number_by (equal (bytes e.words ++ (10 ∷ [])) l) e.number (λ u. number_in es l)

-- a test that is asked only of a number that has words
abbrev where-some : List ℕ → Bool → Bool
where-some [] b = true
where-some (x ∷ xs) b = b

where-some→ : (l : List ℕ) (b : Bool) → some l ≡ true → T (where-some l b) → T b
where-some→ [] b e t = absurd (subst T (sym e) tt)
where-some→ (x ∷ xs) b e t = t

bounded : (n : ℕ) → some (words_of n) ≡ true → n < beyond
bounded n e = by-test (ltb n beyond) refl
  where
    by-test : (b : Bool) → ltb n beyond ≡ b → n < beyond
    by-test true h = ltb-true n beyond h
    by-test false h =
        let z : some [] ≡ true = rw (past n (ltb-false n beyond h)) at e in
        absurd (subst T (sym z) tt)

back : (n : ℕ) → some (words_of n) ≡ true → number_in table (words_of n) ≡ n
unfolding words_of
back n e =
    eqb→eq (number_in table (words_of n)) n
    (where-some→ (words_of n) (eqb (number_in table (words_of n)) n) e
    (below (λ i. where-some (words_of i) (eqb (number_in table (words_of i)) i)) beyond tt n (bounded n e)))

pub words-different : (n m : ℕ) → for_blocks n ≡ true → words_of n ≡ words_of m → n ≡ m
words-different n m f e =
    let s : some (words_of n) ≡ true = words-exactly n ∙ f in
    let t : some (words_of m) ≡ true = ap some (sym e) ∙ s in
    sym (back n s) ∙ (ap (λ (l : List ℕ). number_in table l) e ∙ back m t)
