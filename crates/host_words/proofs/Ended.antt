-- A line is put into the room, and a zero for its line end.
use Prim.Native.Nat.{ℕ, zero, suc, ◌-◌, ◌+◌, ◌≤◌, ◌<◌}
use mathlib.Core.Path.{◌≡◌, refl, ap, ◌∙◌}
use mathlib.Core.List.{List, [], ◌∷◌, ◌++◌}
use lib.ListN.{length, take, drop, set}
use lib.Seq.{take_all}
use borrow.Author.Tests.{lt-ltb, le-ltb}
use native.Mathlib.Omega.{arith}
use Rattle.rules.specs.IfElse.{if_else}
use Rattle.text.specs.Put.{Put}
use Rattle.refusal_words.specs.Words.{words_of}
use Rattle.refusal_words.proofs.Right.{past}
use Rattle.host_words.specs.Words.{ended, length_in, left_in}

set_ended : (w d : List ℕ) (k : ℕ) → length w ≡ suc k → set (w ++ d) k 0 ≡ ended w ++ d
unfolding ended
set_ended [] d k h = absurd (omega arith)
set_ended (x ∷ []) d zero h = refl
set_ended (x ∷ []) d (suc k) h = absurd (omega arith)
set_ended (x ∷ y ∷ l) d zero h = absurd (omega arith)
set_ended (x ∷ y ∷ l) d (suc k) h = ap (λ (m : List ℕ). x ∷ m) (set_ended (y ∷ l) d k (omega arith))

none-length : (w : List ℕ) → length w ≡ 0 → w ≡ []
none-length [] e = refl
none-length (x ∷ l) e = absurd (omega arith)

module _ (n : ℕ) (room : List ℕ) where
  pub short : length room < 72 → (0 ≡ length_in n room) × (room ≡ left_in n room)
  unfolding if_else
  short h = (rw (lt-ltb (length room) 72 h), rw (lt-ltb (length room) 72 h))

  nothing : 72 ≤ length room → words_of n ≡ [] → (0 ≡ length_in n room) × (room ≡ left_in n room)
  unfolding if_else ended
  nothing h e = (rw (le-ltb (length room) 72 h, e), rw (le-ltb (length room) 72 h, e))

  pub too-high : 72 ≤ length room → 255 < n → (0 ≡ length_in n room) × (room ≡ left_in n room)
  too-high h k = nothing h (past n (omega arith))

  module _ (r : ℕ) (new : List ℕ) (h : 72 ≤ length room) (p : Put room 0 (words_of n) r new) where
    long : r ≡ length (words_of n)
    long = omega (arith, p.next)

    put_whole : new ≡ words_of n ++ drop (length (words_of n)) room
    put_whole =
        let z : 0 + length (words_of n) ≡ length (words_of n) = omega arith in
        let all : take (length (words_of n)) (words_of n) ≡ words_of n = take_all (length (words_of n)) (words_of n) (omega arith) in
        rw (z, all) at p.bytes

    pub no_words : r ≡ 0 → (0 ≡ length_in n room) × (new ≡ left_in n room)
    no_words e =
        let z : words_of n ≡ [] = none-length (words_of n) (omega (arith, long)) in
        let all = nothing h z in
        (all.0, (rw z at put_whole) ∙ all.1)

    pub some_words : (k : ℕ) → (r ≡ 0 → ⊥) → k ≡ r - 1 → (k ≡ length_in n room) × (set new k 0 ≡ left_in n room)
    unfolding if_else
    some_words k e f =
        let done : set (words_of n ++ drop (length (words_of n)) room) k 0 ≡ ended (words_of n) ++ drop (length (words_of n)) room =
        set_ended (words_of n) (drop (length (words_of n)) room) k (omega (arith, long)) in
        let less : k ≡ length (words_of n) - 1 = omega (arith, long) in
        ((rw (le-ltb (length room) 72 h) less), (rw (le-ltb (length room) 72 h, put_whole) done))
