-- What holds where these rules are kept.
use Prim.Native.Nat.{ℕ, ◌+◌, ◌≤◌, ◌<◌}
use mathlib.Core.Path.{◌≡◌, sym, ◌∙◌}
use mathlib.Core.List.{List}
use mathlib.Core.Bool.{Bool, false}
use lib.ListN.{length}
use lib.Dec.{ltb}
use borrow.Author.Tests.{ltb-false}
use native.Mathlib.Omega.{arith}
use Rattle.rules.specs.Numbered.{NoneOf}
use Rattle.rules.proofs.Rows.{or-first, or-second}
use Rattle.blocks.specs.Blocks.{len_at, whole_rows, length_broken}
use Rattle.blocks.specs.declared.Limits.{Limits}

-- a descriptor has at least 3 bytes and lies within the block
pub record Placed (s : List ℕ) (o : ℕ) : Type 0 where
  pub long : 3 ≤ len_at s o
  pub inside : o + len_at s o ≤ length s

pub placed : (s : List ℕ) (o : ℕ) → length_broken s o ≡ false → Placed s o
unfolding length_broken
placed s o h = record {
  long = ltb-false (len_at s o) 3 (or-first (ltb (len_at s o) 3) (ltb (length s) (o + len_at s o)) h);
  inside = ltb-false (length s) (o + len_at s o) (or-second (ltb (len_at s o) 3) (ltb (length s) (o + len_at s o)) h);
}

-- by a callee's word
pub said-placed : (s : List ℕ) (o : ℕ) (b : Bool) → b ≡ length_broken s o → b ≡ false → Placed s o
said-placed s o b e h = placed s o (sym e ∙ h)

pub sub-inside : (s : List ℕ) (o : ℕ) (b : Bool) → b ≡ length_broken s o → b ≡ false → o + 2 < length s
sub-inside s o b e h = let p = said-placed s o b e h in omega (arith, p.long, p.inside)

pub len-inside : (s : List ℕ) (o : ℕ) (b : Bool) (len : ℕ) → b ≡ length_broken s o → b ≡ false → len ≡ len_at s o → o + len ≤ length s
len-inside s o b len e h l = rw l (said-placed s o b e h).inside

-- a block has the least bytes, and not over the most
pub sizes : (b : Limits) (s : List ℕ) → NoneOf (whole_rows b s) → (b.least ≤ length s) × (length s ≤ b.most)
unfolding whole_rows
sizes b s n = (ltb-false (length s) b.least n.0, ltb-false b.most (length s) n.1.0)
