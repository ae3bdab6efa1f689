-- What the functions have of a search, in the order of their code.
use Prim.Native.Nat.{ℕ, ◌-◌, ◌≤◌, ◌<◌}
use mathlib.Core.Path.{◌≡◌, refl, sym, ◌∙◌}
use mathlib.Core.List.{List}
use mathlib.Core.Bool.{Bool, true, false}
use lib.ListN.{length}
use native.Mathlib.Omega.{arith}
use Rattle.configuration_rules.specs.Descriptors.{number_at, after_at, is_sought}
use Rattle.configuration_rules.specs.declared.Sought.{Sought}
use Rattle.configuration_rules.specs.declared.Sought.TheVariants.{Outside}
use Rattle.interfaces.specs.Inner.{next_of, block_at, stream_at}
use Rattle.le.specs.Le.{byte}
use Rattle.interfaces.specs.declared.Block.{Block}
use Rattle.interfaces.proofs.Lines.{after_on, next-end, next_here, next-skip, next-is}

-- the search from i on answers as that from o on
pub record Seeks (w : Sought) (s : List ℕ) (o i : ℕ) : Type 0 where
  pub within : i ≤ length s
  pub same : next_of w s i ≡ next_of w s o

module _ (s : List ℕ) where
  -- a step goes on, and not past the end
  pub steps_on : (o j : ℕ) → o < length s → j ≡ after_at s o → o < j
  steps_on o j h e = rw e (after_on s o h).0

  pub steps-in : (o j : ℕ) → o < length s → j ≡ after_at s o → j ≤ length s
  steps-in o j h e = rw e (after_on s o h).1

  pub next-in : (w : Sought) (o r : ℕ) → o ≤ length s → r ≡ next_of w s o → r ≤ length s
  next-in w o r h e = rw e (next-is s w o h).within

  pub next-behind : (w : Sought) (o r : ℕ) → o ≤ length s → r ≡ next_of w s o → o ≤ r
  next-behind w o r h e = rw e (next-is s w o h).least

module _ (w : Sought) (s : List ℕ) (o : ℕ) where
  pub seek-first : o ≤ length s → Seeks w s o o
  seek-first h = record { within = h; same = refl }

  module _ (i : ℕ) (k : Seeks w s o i) where
    pub seek-here : (b : Bool) → i < length s → b ≡ is_sought w s i → b ≡ true → i ≡ next_of w s o
    seek-here b h e t = sym (next_here s w i h (sym e ∙ t)) ∙ k.same

    pub seek-on : (b : Bool) (j : ℕ) → i < length s → b ≡ is_sought w s i → b ≡ false → j ≡ after_at s i → Seeks w s o j
    seek-on b j h e t q = record { within = steps-in s i j h q; same = rw q (sym (next-skip s w i h (sym e ∙ t)) ∙ k.same) }

    pub seek-none : length s ≤ i → length s ≡ next_of w s o
    seek-none h = sym (next-end s w i h) ∙ k.same

-- ---- a loop that steps on comes to an end
pub falls : (s : List ℕ) (i j : ℕ) → i < length s → j ≡ after_at s i → length s - j < length s - i
falls s i j h e = let p = steps_on s i j h e in omega arith

pub next-falls : (w : Sought) (s : List ℕ) (i j r : ℕ) → i < length s → j ≡ after_at s i → r ≡ next_of w s j → length s - r < length s - i
next-falls w s i j r h e q =
    let p = steps_on s i j h e in
    let l = steps-in s i j h e in
    omega (arith, next-behind s w j r l q, next-in s w j r l q)

-- ---- a block
module _ (s : List ℕ) (o a e : ℕ) (p : a ≡ after_at s o) (q : e ≡ next_of Outside s a) where
  pub block-order : o < length s → a ≤ e
  block-order h = next-behind s Outside a e (steps-in s o a h p) q

  pub block_made : (n : ℕ) → n ≡ number_at s o → record { interface = n; offset = a; length = e - a } ≡ block_at s o
  unfolding block_at
  block_made n r = rw (r, q, p)

module _ (s : List ℕ) (o : ℕ) (b : Block) (p : b ≡ block_at s o) where
  pub block_in : o < length s → b.offset ≤ length s
  unfolding block_at
  block_in h = rw p (after_on s o h).1

  pub stream-made : (x : ℕ) → x ≡ byte s b.offset 6 → record { interface = b.interface; endpoint = x; offset = b.offset; length = b.length } ≡ stream_at s o
  unfolding stream_at block_at
  stream-made x q = rw (q, p)
