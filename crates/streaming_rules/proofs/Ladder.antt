-- What the tests of the rule functions say of the rules, in the order of the code.
use Prim.Native.Nat.{ℕ, ◌+◌, ◌≤◌}
use mathlib.Core.Path.{◌≡◌, sym, ◌∙◌}
use mathlib.Core.List.{List}
use mathlib.Core.Bool.{Bool, true, false, not, ◌||◌}
use lib.ListN.{length}
use lib.Dec.{eqb, ltb}
use borrow.Author.Tests.{eq-eqb, ne_eqb, not-false}
use Rattle.le.specs.Le.{byte, le16_at, le32_at}
use Rattle.rules.specs.IfElse.{if_else}
use Rattle.std.specs.Prelude.{Result}
use Rattle.rules.specs.Numbered.{first_row, kept}
use Rattle.blocks.specs.Blocks.{length_broken, type_broken}
use Rattle.blocks.proofs.Right.{said-placed}
use Rattle.intervals.specs.Intervals.{offered}
use Rattle.pictures.specs.Pictures.{untrue}
use Rattle.streaming_descriptors.specs.Descriptors.{len_at, kind_at, shape, format_layout, k_at, intervals_at, is_header, is_format, is_frame, format_of}
use Rattle.streaming_rules.specs.Rules.{is_unread, misplaced, offers_under, offers_at, default_offered, untrue_at, flag_wrong, line_wrong, kind_rows, rows}
use Rattle.streaming_descriptors.specs.declared.Kind.{Kind}
use Rattle.streaming_descriptors.specs.declared.Layout.{Layout}
use Rattle.streaming_descriptors.specs.declared.Format.{Format}
use Rattle.streaming_rules.specs.declared.Sofar.{Sofar}

-- ---- no header, format or frame breaks none of 29 to 35, 39 and 40
pub kind-none : (k : Kind) (s : List ℕ) (o : ℕ) (a : Sofar) → is_header k ≡ false → is_format k ≡ false → is_frame k ≡ false → 0 ≡ first_row (kind_rows k s o a)
unfolding kind_rows
kind-none k s o a h i j = rw (h, i, j)

-- ---- 25 to 28, and on
module _ (s : List ℕ) (o : ℕ) (a : Sofar) (b : Bool) (x : b ≡ length_broken s o) where
  pub rule-25 : b ≡ true → 25 ≡ first_row (rows s o a)
  unfolding rows
  rule-25 h = rw (← x, h)

  module _ (y : b ≡ false) (t : Bool) (z : t ≡ type_broken s o) where
    pub rule-26 : t ≡ true → 26 ≡ first_row (rows s o a)
    unfolding rows
    rule-26 h = rw (← x, y, ← z, h)

    module _ (w : t ≡ false) where
      pub rule-26' : byte s o 2 ≡ 2 → 26 ≡ first_row (rows s o a)
      unfolding rows
      rule-26' h = rw (← x, y, ← z, w, eq-eqb (byte s o 2) 2 h)

      module _ (v : byte s o 2 ≡ 2 → ⊥) (k : Kind) (d : k ≡ kind_at s o) (u : Bool) (e : u ≡ is_unread k) where
        pub rule-27 : u ≡ true → 27 ≡ first_row (rows s o a)
        unfolding rows
        rule-27 h = rw (← x, y, ← z, w, ne_eqb (byte s o 2) 2 v, ← d, ← e, h)

        module _ (g : u ≡ false) (q : Bool) (f : q ≡ shape k s o) where
          pub rule-28 : not q ≡ true → 28 ≡ first_row (rows s o a)
          unfolding rows
          rule-28 h = rw (← x, y, ← z, w, ne_eqb (byte s o 2) 2 v, ← d, ← e, g, ← f, h)

          pub rule-on : (r : Result (Unit {0}) ℕ) → not q ≡ false → r ≡ kept (first_row (kind_rows k s o a)) → r ≡ kept (first_row (rows s o a))
          unfolding rows
          rule-on r h i = rw (← x, y, ← z, w, ne_eqb (byte s o 2) 2 v, ← d, ← e, g, ← f, h) i

-- ---- 31, 33
pub differs : (a b n m : ℕ) → n ≡ a → m ≡ b → (n ≡ m + 1 → ⊥) → not (eqb a (b + 1)) ≡ true
differs a b n m e f h = rw (← e, ← f, ne_eqb n (m + 1) h)

pub agrees : (a b n m : ℕ) → n ≡ a → m ≡ b → n ≡ m + 1 → not (eqb a (b + 1)) ≡ false
agrees a b n m e f h = rw (← e, ← f, eq-eqb n (m + 1) h)

-- ---- 35, of a format
pub or_no : (b v : Bool) → b ≡ v → (b || false) ≡ v
or_no true v e = e
or_no false v e = e

-- ---- 32
pub some-format : (f : ℕ) (a : Sofar) → (a.formats ≡ 0 → ⊥) → not (eqb a.last.kind f) ≡ misplaced f a
unfolding misplaced
some-format f a h = rw (ne_eqb a.formats 0 h)

-- ---- 34
pub offers-is : (f : ℕ) (s : List ℕ) (o k x : ℕ) (r : Bool) → k ≡ k_at f s o → r ≡ offered s (o + intervals_at) k x → r ≡ offers_under f s o x
unfolding offers_under
offers-is f s o k x r e h = rw (← e) h

pub default-is : (f : ℕ) (l : Layout) (s : List ℕ) (o x : ℕ) (r : Bool) → l ≡ format_layout f → x ≡ le32_at s (o + l.interval) → r ≡ offers_under f s o x → r ≡ default_offered f s o
default-is f l s o x r w e h = h ∙ (rw (e, w))

pub own-subtype : (s : List ℕ) (o x : ℕ) (k : Kind) (f : ℕ) (r : Bool) → k ≡ kind_at s o → f ≡ format_of k → r ≡ offers_under f s o x → r ≡ offers_at s o x
own-subtype s o x k f r e g h = rw (← e, ← g) h

-- ---- 39
pub not-uncompressed : (f : ℕ) (x : Format) (s : List ℕ) (o : ℕ) → (f ≡ 4 → ⊥) → false ≡ untrue_at f x s o
unfolding untrue_at
not-uncompressed f x s o h = rw (ne_eqb f 4 h)

pub untrue-is :
    (f : ℕ) (x : Format) (s : List ℕ) (o w h n : ℕ) (r : Bool) → f ≡ 4 → w ≡ le16_at s (o + 5) → h ≡ le16_at s (o + 7) → n ≡ le32_at s (o + 17) →
    r ≡ untrue x.guid x.bits w h n → r ≡ untrue_at f x s o
unfolding untrue_at
untrue-is f x s o w h n r e a b c q = rw (eq-eqb f 4 e, ← a, ← b, ← c) q

-- ---- 40
module _ (f : ℕ) (s : List ℕ) (o : ℕ) where
  pub flag_is : f ≡ 0x10 → ltb 1 (byte s o 27) ≡ flag_wrong f s o
  unfolding flag_wrong
  flag_is h = rw (eq-eqb f 0x10 h)

  pub flag-in : (n : ℕ) → f ≡ 0x10 → o + (format_layout f).length ≤ n → o + 28 ≤ n
  unfolding format_layout if_else
  flag-in n h w = rw h at w

  module _ (x : Format) where
    pub no_line : (f ≡ 0x10 → ⊥) → false ≡ line_wrong f x s o
    unfolding line_wrong
    no_line h = rw (ne_eqb f 0x10 h)

    module _ (h : f ≡ 0x10) (b : ℕ) (e : b ≡ byte s x.offset 27) where
      pub fixed-size : (b ≡ 1 → ⊥) → false ≡ line_wrong f x s o
      unfolding line_wrong
      fixed-size n = rw (eq-eqb f 0x10 h, ← e, ne_eqb b 1 n)

      pub line-is : b ≡ 1 → (n : ℕ) → n ≡ le32_at s (o + 22) → not (eqb n 0) ≡ line_wrong f x s o
      unfolding line_wrong
      line-is q n z = rw (eq-eqb f 0x10 h, ← e, eq-eqb b 1 q, ← z)

-- ---- 28
pub shaped : (k : Kind) (s : List ℕ) (o : ℕ) (q : Bool) → q ≡ shape k s o → not q ≡ false → shape k s o ≡ true
shaped k s o q f g = sym f ∙ not-false q g

pub lies : (s : List ℕ) (o : ℕ) (b : Bool) → b ≡ length_broken s o → b ≡ false → o + len_at s o ≤ length s
lies s o b e h = (said-placed s o b e h).inside
