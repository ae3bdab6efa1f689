-- Words that differ somewhere, words that do not, and what is read of them.
use Prim.Native.Nat.{ℕ, ◌<◌}
use mathlib.Core.Path.{◌≡◌, refl, sym}
use mathlib.Core.Bool.{Bool, true, false}
use mathlib.Core.List.{List}
use lib.ListN.{get_or, length}
use lib.Dec.{eqb}
use lib.Seq.{ext_get_or}
use borrow.Author.Tests.{eq-eqb, ne_eqb, eqb-true, not-false}
use Rattle.rules.specs.Numbered.{any_below}
use Rattle.rules.proofs.Rows.{any_none, any_some, none_any}
use Rattle.rules.specs.IfElse.{if_else}
use Rattle.session_rules.specs.declared.Rest.{Rest}
use Rattle.session_words.specs.declared.Read.TheVariants.{Broken, Laid}
use Rattle.session_words.specs.Words.{word_count, words_of}
use Rattle.session_words.specs.Reading.{differ_at, spare_set, other_form, rest_in, read_of}

module _ (w x : List ℕ) where
  pub some-differs : (n k : ℕ) → k < n → (get_or w k 0 ≡ get_or x k 0 → ⊥) → true ≡ any_below n (differ_at w x)
  some-differs n k h e = sym (any_some n (differ_at w x) k h (rw (ne_eqb (get_or w k 0) (get_or x k 0) e)))

  pub no_difference : (k : ℕ) → get_or w k 0 ≡ get_or x k 0 → differ_at w x k ≡ false
  no_difference k e = rw (eq-eqb (get_or w k 0) (get_or x k 0) e)

  pub none-differs : (n : ℕ) → ((j : ℕ) → j < n → differ_at w x j ≡ false) → false ≡ any_below n (differ_at w x)
  none-differs n f = sym (any_none n (differ_at w x) f)

  -- words of one length that differ nowhere are the same
  pub all_same : length w ≡ length x → any_below (length w) (differ_at w x) ≡ false → w ≡ x
  all_same e f =
      ext_get_or 0 w x e (λ i h. eqb-true (get_or w i 0) (get_or x i 0) (not-false (eqb (get_or w i 0) (get_or x i 0)) (none_any (length w) (differ_at w x) f i h)))

-- ---- what words are read as, one law for each way through the code
module _ (w : List ℕ) (a : Bool) (e : a ≡ spare_set w) where
  pub read-spare : a ≡ true → Broken 54 ≡ read_of w
  unfolding read_of if_else
  read-spare p = rw (← e, p)

  module _ (p : a ≡ false) (r : Rest) (q : r ≡ rest_in w) (x : List ℕ) (l : x ≡ words_of r) (b : Bool) (d : b ≡ any_below word_count (differ_at w x)) where
    other : b ≡ other_form w
    unfolding other_form
    other = rw (d, l, q) refl

    pub read-other : b ≡ true → Broken 50 ≡ read_of w
    unfolding read_of if_else
    read-other t = rw (← e, p, ← other, t)

    pub read-laid : b ≡ false → Laid r ≡ read_of w
    unfolding read_of if_else
    read-laid t = rw (← e, p, ← other, t, q)
