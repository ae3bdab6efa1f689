-- What the functions have, in the order of their code.
use Rattle.std.specs.Prelude.{None, Option, Some}
use Prim.Native.Nat.{ℕ, suc, ◌+◌, ◌-◌, ◌*◌, ◌≤◌, ◌<◌}
use mathlib.Core.Path.{◌≡◌}
use mathlib.Core.List.{List, ◌∷◌, map}
use mathlib.Core.Bool.{Bool, true, false}
use lib.ListN.{length}
use lib.Dec.{ltb}
use borrow.Author.Tests.{lt-ltb, le-ltb, eq-eqb, ne_eqb}
use native.Mathlib.Omega.{arith}
use Rattle.le.specs.Le.{byte}
use Rattle.rules.specs.IfElse.{if_else}
use Rattle.configuration_rules.specs.Descriptors.{type_at, setting_at as number_of, after_at, is_sought, packet_bytes}
use Rattle.configuration_rules.specs.declared.Sought.{Sought}
use Rattle.configuration_rules.specs.declared.Sought.TheVariants as sought
use Rattle.interfaces.specs.Inner.{found, next_of}
use Rattle.interfaces.proofs.Lines.{after_on, next-is, found_here, found-end}
use Rattle.alternate_settings.specs.Inner.{endpoint_place, bytes_at, setting_at, settings_of, kth_of, is_better, against, better_of, fewest_from, fewest_of}
use Rattle.alternate_settings.specs.declared.Setting.{Setting}

-- ---- the bytes of a setting
module _ (s : List ℕ) (o a j e t : ℕ) (p : j ≡ after_at s o) (q : e ≡ next_of (sought.Endpoint a) s j) (x : t ≡ type_at s e) where
  place_is : e ≡ endpoint_place s o a
  place_is = rw p at q

  pub no_bytes : (t ≡ 5 → ⊥) → 0 ≡ bytes_at s o a
  unfolding bytes_at if_else
  no_bytes h = rw (← place_is, ← x, ne_eqb t 5 h)

  pub some_bytes : t ≡ 5 → (l h w r : ℕ) → l ≡ byte s e 4 → h ≡ byte s e 5 → w ≡ l + h * 256 → r ≡ packet_bytes w → r ≡ bytes_at s o a
  unfolding bytes_at if_else
  some_bytes z l h w r b c d f =
      let n : e + 4 + 1 ≡ e + 5 = omega arith in
      rw (← place_is, ← x, eq-eqb t 5 z, n, ← b, ← c, ← d) f

pub setting-made : (s : List ℕ) (o a n b : ℕ) → n ≡ number_of s o → b ≡ bytes_at s o a → record { number = n; bytes = b } ≡ setting_at s a o
unfolding setting_at
setting-made s o a n b p q = rw (p, q)

-- ---- which is better
module _ (x y : Setting) where
  pub by_number : x.bytes ≡ y.bytes → ltb x.number y.number ≡ is_better x y
  unfolding is_better if_else
  by_number h = rw (eq-eqb x.bytes y.bytes h)

  pub by_bytes : (x.bytes ≡ y.bytes → ⊥) → ltb x.bytes y.bytes ≡ is_better x y
  unfolding is_better if_else
  by_bytes h = rw (ne_eqb x.bytes y.bytes h)

module _ (p : ℕ) (best : Option Setting) (x : Setting) where
  pub too_few : x.bytes < p → best ≡ better_of p best x
  unfolding better_of if_else
  too_few h = rw (lt-ltb x.bytes p h)

  module _ (h : p ≤ x.bytes) where
    pub the-first : best ≡ None → Some x ≡ better_of p best x
    unfolding better_of against if_else
    the-first e = rw (le-ltb x.bytes p h, e)

    module _ (y : Setting) (e : best ≡ Some y) (b : Bool) (q : b ≡ is_better x y) where
      pub the-new : b ≡ true → Some x ≡ better_of p best x
      unfolding better_of against if_else
      the-new t = rw (le-ltb x.bytes p h, e, ← q, t)

      pub the-old : b ≡ false → Some y ≡ better_of p best x
      unfolding better_of against if_else
      the-old t = rw (le-ltb x.bytes p h, e, ← q, t)

-- ---- going over what is found
-- `at` is one of what is sought, or the end
pub record Stands (w : Sought) (s : List ℕ) (at : ℕ) : Type 0 where
  pub within : at ≤ length s
  pub here : at < length s → is_sought w s at ≡ true

module _ (w : Sought) (s : List ℕ) where
  stands_from : (j : ℕ) → j ≤ length s → Stands w s (next_of w s j)
  stands_from j h = let n = next-is s w j h in record { within = n.within; here = n.here }

  -- what is found from there on, and after one more
  onward : (at j r : ℕ) → Stands w s at → at < length s → j ≡ after_at s at → r ≡ next_of w s j → Stands w s r × (found w s at ≡ at ∷ found w s r)
  onward at j r k h p q =
      let l : j ≤ length s = rw p (after_on s at h).1 in
      (rw q (stands_from j l), rw (q, (next-is s w j l).same, p) (found_here s w at h (k.here h)))

-- the k-th
pub record Kth (s : List ℕ) (n a k at left : ℕ) : Type 0 where
  pub stands : Stands (sought.Setting n) s at
  pub same : kth_of (map (setting_at s a) (found (sought.Setting n) s at)) left ≡ kth_of (settings_of s n a) k

module _ (s : List ℕ) (n a k : ℕ) where
  pub kth-starts : (r : ℕ) → r ≡ next_of (sought.Setting n) s 0 → Kth s n a k r k
  kth-starts r e = rw e (record { stands = stands_from (sought.Setting n) s 0 (omega arith); same = rw (next-is s (sought.Setting n) 0 (omega arith)).same })

  module _ (at left : ℕ) (g : Kth s n a k at left) where
    pub kth-ends : length s ≤ at → None ≡ kth_of (settings_of s n a) k
    unfolding kth_of
    kth-ends h = rw (found-end s (sought.Setting n) at h) at g.same

    pub kth-here : (x : Setting) → at < length s → left ≡ 0 → x ≡ setting_at s a at → Some x ≡ kth_of (settings_of s n a) k
    unfolding kth_of
    kth-here x h z e = rw e (rw (z, found_here s (sought.Setting n) at h (g.stands.here h)) at g.same)

    pub kth-on : (j r : ℕ) → at < length s → (left ≡ 0 → ⊥) → j ≡ after_at s at → r ≡ next_of (sought.Setting n) s j → Kth s n a k r (left - 1)
    unfolding kth_of
    kth-on j r h z p q =
        let o = onward (sought.Setting n) s at j r g.stands h p q in
        let e : left ≡ suc (left - 1) = omega arith in
        record { stands = o.0; same = rw (e, o.1) at g.same }

-- the fewest
pub record Sifting (s : List ℕ) (n a p : ℕ) (best : Option Setting) (at : ℕ) : Type 0 where
  pub stands : Stands (sought.Setting n) s at
  pub same : fewest_from p best (map (setting_at s a) (found (sought.Setting n) s at)) ≡ fewest_of p (settings_of s n a)

module _ (s : List ℕ) (n a p : ℕ) where
  pub sifting-starts : (r : ℕ) → r ≡ next_of (sought.Setting n) s 0 → Sifting s n a p None r
  sifting-starts r e = rw e (record { stands = stands_from (sought.Setting n) s 0 (omega arith); same = rw (next-is s (sought.Setting n) 0 (omega arith)).same })

  module _ (best : Option Setting) (at : ℕ) (g : Sifting s n a p best at) where
    pub sifting-ends : length s ≤ at → best ≡ fewest_of p (settings_of s n a)
    unfolding fewest_from
    sifting-ends h = rw (found-end s (sought.Setting n) at h) at g.same

    pub sifting-on : (x : Setting) (c : Option Setting) (j r : ℕ) → at < length s → x ≡ setting_at s a at → c ≡ better_of p best x → j ≡ after_at s at → r ≡ next_of (sought.Setting n) s j → Sifting s n a p c r
    unfolding fewest_from
    sifting-on x c j r h e f y q =
        let o = onward (sought.Setting n) s at j r g.stands h y q in
        record { stands = o.0; same = rw (f, e) (rw o.1 at g.same) }
