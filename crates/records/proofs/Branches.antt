-- What each branch of the code says of the definitions.
use Prim.Native.Nat.{ℕ, ◌+◌, ◌≤◌, ◌<◌}
use mathlib.Core.Path.{◌≡◌, refl, ◌∙◌}
use mathlib.Core.Bool.{Bool, true, false, ◌||◌, ◌&&◌, not}
use mathlib.Core.List.{List}
use native.Mathlib.Omega.{arith}
use lib.ListN.{length, get_or, drop}
use lib.Dec.{eqb}
use borrow.Author.Tests.{eq-eqb, ne_eqb, lt-ltb, le-ltb}
use Rattle.le.specs.Le.{le16_at}
use Rattle.fill.specs.Fill.{any_set}
use Rattle.records.specs.declared.Form.{Form}
use Rattle.records.specs.declared.Form.TheVariants.{Short, Long}
use Rattle.records.specs.Form.{size_of, head_of, most_of}
use Rattle.records.specs.Record.{kind_at, length_at, second_set, record_bad}

-- the head and the most data are the record
pub head-most : (f : Form) → head_of f + most_of f ≡ size_of f
head-most Short = refl
head-most Long = refl

-- a whole record has the bytes that are looked at
pub size-least : (f : Form) → 64 ≤ size_of f
size-least Short = omega arith
size-least Long = omega arith

pub head_few : (f : Form) → head_of f ≤ 4
head_few Short = omega arith
head_few Long = omega arith

pub most-few : (f : Form) → most_of f ≤ 3072
most-few Short = omega arith
most-few Long = omega arith

module _ (f : Form) (l s : ℕ) (z : s ≡ size_of f) (a : l ≡ s) where
  pub reads-kind : 0 < l
  reads-kind = omega (arith, size-least f)

  pub reads-head : 4 ≤ l
  reads-head = omega (arith, size-least f)

  pub reads-fill : (k n m : ℕ) → k ≡ head_of f → m ≡ most_of f → n ≤ m → k + n ≤ l
  reads-fill k n m d g c = omega (arith, head-most f)

-- ---- the length, and the second byte
pub length-short : (f : Form) (r : List ℕ) (n : ℕ) → f ≡ Short → n ≡ get_or r 1 0 → n ≡ length_at f r
length-short f r n e h = rw e h

pub length-long : (f : Form) (r : List ℕ) (n : ℕ) → f ≡ Long → n ≡ le16_at r 2 → n ≡ length_at f r
length-long f r n e h = rw e h

pub second_short : (f : Form) (r : List ℕ) → f ≡ Short → false ≡ second_set f r
second_short f r e = rw e

pub second-long : (f : Form) (r : List ℕ) → f ≡ Long → not (eqb (get_or r 1 0) 0) ≡ second_set f r
second-long f r e = rw e

module _ (f : Form) (r : List ℕ) (s : ℕ) (z : s ≡ size_of f) where
  pub bad-size : (length r ≡ s → ⊥) → true ≡ record_bad f r
  unfolding record_bad
  bad-size h = rw (ne_eqb (length r) (size_of f) (rw z at (h)))

  -- a whole record: its kind, then its second byte
  module _ (a : length r ≡ s) where
    whole : eqb (length r) (size_of f) ≡ true
    whole = eq-eqb (length r) (size_of f) (a ∙ z)

    pub bad_kind : 2 < kind_at r → true ≡ record_bad f r
    unfolding record_bad
    bad_kind h = rw (whole, lt-ltb 2 (kind_at r) h)

    module _ (b : kind_at r ≤ 2) (x : Bool) (e : x ≡ second_set f r) where
      pub bad-second : x ≡ true → true ≡ record_bad f r
      unfolding record_bad
      bad-second h = rw (whole, le-ltb 2 (kind_at r) b, ← e, h)

      -- then its length
      module _ (y : x ≡ false) (n m : ℕ) (l : n ≡ length_at f r) (g : m ≡ most_of f) where
        pub bad-length : m < n → true ≡ record_bad f r
        unfolding record_bad
        bad-length h = rw (whole, le-ltb 2 (kind_at r) b, ← e, y, ← l, ← g, lt-ltb m n h)

        module _ (c : n ≤ m) where
          pub bad-filled : (kind_at r ≡ 0 → ⊥) → (n ≡ 0 → ⊥) → true ≡ record_bad f r
          unfolding record_bad
          bad-filled h i = rw (whole, le-ltb 2 (kind_at r) b, ← e, y, ← l, ← g, le-ltb m n c, ne_eqb (kind_at r) 0 h, ne_eqb n 0 i)

          -- then its fill
          module _ (k : ℕ) (t : Bool) (d : k ≡ head_of f) (u : t ≡ any_set (drop (k + n) r)) where
            pub bad-empty : n ≡ 0 → t ≡ record_bad f r
            unfolding record_bad
            bad-empty i = rw (whole, le-ltb 2 (kind_at r) b, ← e, y, ← l, ← g, le-ltb m n c, eq-eqb n 0 i, ← d) (go (not (eqb (kind_at r) 0)))
              where
                go : (v : Bool) → t ≡ ((v && false) || any_set (drop (k + n) r))
                go true = u
                go false = u

            pub bad-transfer : kind_at r ≡ 0 → t ≡ record_bad f r
            unfolding record_bad
            bad-transfer i = rw (whole, le-ltb 2 (kind_at r) b, ← e, y, ← l, ← g, le-ltb m n c, eq-eqb (kind_at r) 0 i, ← d) u
