-- The two round trips: a record's numbers are those it was made of, and a record that 54 does not refuse is the record of its numbers. So 54 refuses exactly what is no record of numbers.
use Prim.Native.Nat.{ℕ, zero, suc, ◌+◌, ◌-◌, ◌*◌, ◌/◌, ◌%◌, ◌^◌, ◌<◌, ◌≤◌}
use mathlib.Core.Path.{◌≡◌, refl, sym, ap, subst, ◌∙◌}
use mathlib.Core.Bool.{Bool, true, false, not, ◌||◌, true≢false}
use mathlib.Core.List.{List, [], ◌∷◌, ◌++◌}
use mathlib.Core.Logic.{◌↔◌}
use lib.ListN.{length, get_or, take, drop, replicate, length-append, length-replicate, length-drop, take-append-drop}
use lib.Seq.{take-add, drop_at, drop-drop, get_or-drop}
use lib.Dec.{eqb}
use borrow.Author.Tests.{eqb-true}
use native.Mathlib.Omega.{arith}
use native.Mathlib.Nat.{mod-eq_of_lt, div-eq_of_lt, add-mul-div_right, add-mul-mod_self_right}
use Rattle.fill.specs.Fill.{any_set}
use Rattle.fill.proofs.Zeros.{none-set, zeros-unset}
use Rattle.session_rules.specs.Accounts.{number_count}
use Rattle.places.specs.Places.{record_size, little_of, eights, record_of, word_at, words_from, numbers_in, broken54, Below, Numbers}
use Rattle.places.proofs.Laying.{eights-length}

-- ---- a record's numbers as those of its front, and then of what is left
abbrev number_in : ℕ → List ℕ → ℕ
number_in zero l = 0
number_in (suc k) [] = 0
number_in (suc k) (b ∷ bs) = b + number_in k bs * 256

abbrev places_in : ℕ → List ℕ → List ℕ
places_in zero r = []
places_in (suc k) r = number_in 8 r ∷ places_in k (drop 8 r)

number-first : (k : ℕ) (l : List ℕ) → number_in (suc k) l ≡ get_or l 0 0 + number_in k (drop 1 l) * 256
number-first zero [] = refl
number-first (suc k) [] = refl
number-first k (x ∷ l) = refl

-- eight bytes, one after the other
number-next : (k o : ℕ) (l : List ℕ) → number_in (suc k) (drop o l) ≡ get_or l o 0 + number_in k (drop (o + 1) l) * 256
number-next k o l =
    let z : o + 0 ≡ o = omega arith in
    number-first k (drop o l) ∙ (λ i. (get_or-drop o l 0 0 ∙ ap (λ (j : ℕ). get_or l j 0) z) i + number_in k (drop-drop 1 o l i) * 256)

number-eight : (l : List ℕ) → number_in 8 l ≡ word_at l 0
number-eight l =
    omega
    (arith, number-next 7 0 l, number-next 6 1 l, number-next 5 2 l, number-next 4 3 l, number-next 3 4 l, number-next 2 5 l, number-next 1 6 l, number-next 0 7 l)

-- whatever stands before them
word-drop : (r : List ℕ) (o : ℕ) → word_at r o ≡ word_at (drop o r) 0
word-drop r o =
    let same : (i j : ℕ) → o + i ≡ j → get_or r j 0 ≡ get_or (drop o r) i 0 = λ i j e. ap (λ (k : ℕ). get_or r k 0) (sym e) ∙ sym (get_or-drop o r i 0) in
    omega
    (arith, same 0 o (omega arith), same 1 (o + 1) refl, same 2 (o + 2) refl, same 3 (o + 2 + 1) (omega arith), same 4 (o + 4) refl, same 5 (o + 4 + 1) (omega arith), same 6 (o + 4 + 2) (omega arith), same 7 (o + 4 + 2 + 1) (omega arith))

words-places : (r : List ℕ) (o k : ℕ) → words_from r o k ≡ places_in k (drop o r)
words-places r o zero = refl
words-places r o (suc k) =
    ap (λ (m : ℕ). m ∷ words_from r (o + 8) k) (word-drop r o ∙ sym (number-eight (drop o r)))
    ∙ ap (λ (l : List ℕ). number_in 8 (drop o r) ∷ l) (words-places r (o + 8) k ∙ ap (places_in k) (sym (drop-drop 8 o r)))

numbers-places : (r : List ℕ) → numbers_in r ≡ places_in number_count r
unfolding numbers_in
numbers-places r = words-places r 0 number_count

low : (a b : ℕ) → a < 256 → (a + b * 256) % 256 ≡ a
low a b h = add-mul-mod_self_right a b 256 ∙ mod-eq_of_lt h

rest : (a b : ℕ) → a < 256 → (a + b * 256) / 256 ≡ b
rest a b h = let e : a / 256 ≡ 0 = div-eq_of_lt h in add-mul-div_right a b {z = 256} (omega arith) ∙ (rw e (omega arith))

-- a number of k bytes comes back
number-little : (k n : ℕ) (l : List ℕ) → n < 256 ^ k → number_in k (little_of k n ++ l) ≡ n
number-little zero n l h = omega arith
number-little (suc k) n l h =
    let q : n / 256 < 256 ^ k = omega arith in
    ap (λ (m : ℕ). n % 256 + m * 256) (number-little k (n / 256) l q) ∙ omega arith

-- k bytes come back
little-number : (k : ℕ) (l : List ℕ) → k ≤ length l → Below 256 l → little_of k (number_in k l) ≡ take k l
little-number zero l h b = refl
little-number (suc k) [] h b = absurd (omega arith)
little-number (suc k) (x ∷ xs) h b =
    let e : (x + number_in k xs * 256) % 256 ≡ x = low x (number_in k xs) b.0 in
    let f : (x + number_in k xs * 256) / 256 ≡ number_in k xs = rest x (number_in k xs) b.0 in
    let g : little_of k (number_in k xs) ≡ take k xs = little-number k xs (omega arith) b.1 in
    ap (λ (y : ℕ). y ∷ little_of k ((x + number_in k xs * 256) / 256)) e ∙ ap (λ (m : ℕ). x ∷ little_of k m) f ∙ ap (λ (m : List ℕ). x ∷ m) g

-- the numbers of what they were laid out as, whatever lies behind
places-eights : (ns l : List ℕ) → Below (2 ^ 64) ns → places_in (length ns) (eights ns ++ l) ≡ ns
places-eights [] l b = refl
places-eights (n ∷ ns) l b =
    let e : number_in 8 (little_of 8 n ++ (eights ns ++ l)) ≡ n = number-little 8 n (eights ns ++ l) b.0 in
    ap (λ (m : ℕ). m ∷ places_in (length ns) (eights ns ++ l)) e ∙ ap (λ (m : List ℕ). n ∷ m) (places-eights ns l b.1)

-- ROUND TRIP: a ledger's numbers, laid out and read, are the ledger's numbers
pub read_back : (ns : List ℕ) → Numbers ns → numbers_in (record_of ns) ≡ ns
unfolding record_of
read_back ns w =
    numbers-places (eights ns ++ replicate (record_size - 8 * length ns) 0) ∙ subst (λ (k : ℕ). places_in k (eights ns ++ replicate (record_size - 8 * length ns) 0) ≡ ns) w.many (places-eights ns (replicate (record_size - 8 * length ns) 0) w.fit)

-- what is left of bytes is bytes
below-drop : (m k : ℕ) (l : List ℕ) → Below m l → Below m (drop k l)
below-drop m zero l b = b
below-drop m (suc k) [] b = tt
below-drop m (suc k) (x ∷ xs) b = below-drop m k xs b.1

eights-places : (k : ℕ) (r : List ℕ) → 8 * k ≤ length r → Below 256 r → eights (places_in k r) ≡ take (8 * k) r
eights-places zero r h b = refl
eights-places (suc k) r h b =
    let e : little_of 8 (number_in 8 r) ≡ take 8 r = little-number 8 r (omega arith) b in
    let d : length (drop 8 r) ≡ length r - 8 = length-drop 8 r in
    let f : eights (places_in k (drop 8 r)) ≡ take (8 * k) (drop 8 r) = eights-places k (drop 8 r) (omega arith) (below-drop 256 8 r b) in
    let g : 8 + 8 * k ≡ 8 * suc k = omega arith in
    ap (λ (m : List ℕ). m ++ eights (places_in k (drop 8 r))) e ∙ ap (λ (m : List ℕ). take 8 r ++ m) f ∙ sym (take-add 8 (8 * k) r) ∙ ap (λ (m : ℕ). take m r) g

places-length : (k : ℕ) (r : List ℕ) → length (places_in k r) ≡ k
places-length zero r = refl
places-length (suc k) r = ap suc (places-length k (drop 8 r))

split54 : (a b : Bool) → (not a || b) ≡ false → (a ≡ true) × (b ≡ false)
split54 true b e = (refl, e)
split54 false b e = absurd (true≢false e)

-- ROUND TRIP: a record that 54 does not refuse is the record of its numbers
pub laid-back : (r : List ℕ) → Below 256 r → broken54 r ≡ false → record_of (numbers_in r) ≡ r
unfolding record_of broken54
laid-back r b e =
    let s : (eqb (length r) record_size ≡ true) × (any_set (drop (8 * number_count) r) ≡ false) = split54 (eqb (length r) record_size) (any_set (drop (8 * number_count) r)) e in
    let n : length r ≡ 320 = eqb-true (length r) record_size s.0 in
    let z : drop 248 r ≡ replicate (length (drop 248 r)) 0 = none-set (drop 248 r) s.1 in
    let l : length (drop 248 r) ≡ 72 = length-drop 248 r ∙ omega arith in
    let k : length (places_in number_count r) ≡ 31 = places-length number_count r in
    ap (λ (l : List ℕ). eights l ++ replicate (record_size - 8 * length l) 0) (numbers-places r) ∙ ap (λ (m : ℕ). eights (places_in number_count r) ++ replicate (record_size - 8 * m) 0) k ∙ ap (λ (m : List ℕ). m ++ replicate 72 0) (eights-places 31 r (omega arith) b) ∙
    ap (λ (m : List ℕ). take 248 r ++ m) (sym (z ∙ ap (λ (m : ℕ). replicate m 0) l)) ∙ take-append-drop 248 r

unset54 : (n : ℕ) (c : Bool) → n ≡ 320 → c ≡ false → (not (eqb n 320) || c) ≡ false
unset54 n c e f = rw (e, f)

-- a record of numbers is not refnumberCount
pub laid-fine : (ns : List ℕ) → Numbers ns → broken54 (record_of ns) ≡ false
unfolding record_of broken54
laid-fine ns w =
    let k : length (eights ns) ≡ 248 = eights-length ns ∙ ap (λ (m : ℕ). 8 * m) w.many in
    let n : length (eights ns ++ replicate (record_size - 8 * length ns) 0) ≡ 320
    = length-append (eights ns) (replicate (record_size - 8 * length ns) 0) ∙ ap (λ (m : ℕ). length (eights ns) + m) (length-replicate (record_size - 8 * length ns) 0) ∙ (rw (k, w.many) refl) in
    let d : drop 248 (eights ns ++ replicate (record_size - 8 * length ns) 0) ≡ replicate (record_size - 8 * length ns) 0 = drop_at (eights ns) (replicate (record_size - 8 * length ns) 0) 248 k in
    unset54 (length (eights ns ++ replicate (record_size - 8 * length ns) 0)) (any_set (drop 248 (eights ns ++ replicate (record_size - 8 * length ns) 0))) n (ap any_set d ∙ zeros-unset (record_size - 8 * length ns))

-- 54 EXACTLY WHEN a record of bytes is no ledger's record
numbers_fit : (k : ℕ) (r : List ℕ) → Below 256 r → Below (2 ^ 64) (places_in k r)
numbers_fit zero r b = tt
numbers_fit (suc k) r b = (number_fits 8 r b, numbers_fit k (drop 8 r) (below-drop 256 8 r b))
  where
    number_fits : (j : ℕ) (l : List ℕ) → Below 256 l → number_in j l < 256 ^ j
    number_fits zero l c = omega arith
    number_fits (suc j) [] c = let p : 0 < 256 ^ j = pow_pos j in omega arith
      where
        pow_pos : (i : ℕ) → 0 < 256 ^ i
        pow_pos zero = omega arith
        pow_pos (suc i) = let q : 0 < 256 ^ i = pow_pos i in omega arith
    number_fits (suc j) (x ∷ xs) c = let q : number_in j xs < 256 ^ j = number_fits j xs c.1 in let y : x < 256 = c.0 in omega arith

-- the numbers of any bytes are a ledger's
pub numbers-held : (r : List ℕ) → Below 256 r → Numbers (numbers_in r)
numbers-held r b = rw (numbers-places r) (record { many = places-length number_count r; fit = numbers_fit number_count r b })

pub image-54 : (r : List ℕ) → Below 256 r → (broken54 r ≡ false) ↔ ((ns : List ℕ) × (Numbers ns × (r ≡ record_of ns)))
image-54 r b = (
  (λ e. (numbers_in r, (numbers-held r b, sym (laid-back r b e)))),
  (λ w. ap broken54 w.1.1 ∙ laid-fine w.0 w.1.0),
)

-- a fresh ledger is 320 zero bytes
pub fresh-zeros : record_of (replicate number_count 0) ≡ replicate record_size 0
unfolding record_of
fresh-zeros = refl
