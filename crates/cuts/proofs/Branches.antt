-- What each branch of the code says of the definitions, and where the whole records end.
use Prim.Native.Nat.{ℕ, min, ◌-◌, ◌*◌, ◌/◌, ◌%◌, ◌≤◌, ◌<◌}
use Rattle.std.proofs.Math.Nat.{min-eq_left, min-eq_right}
use mathlib.Core.Path.{◌≡◌, refl, ap, ◌∙◌}
use mathlib.Core.Bool.{Bool, true, false}
use lib.Dec.{ltb}
use mathlib.Core.List.{List}
use native.Mathlib.Omega.{arith}
use native.Mathlib.Nat.{mod-le, mod-lt, div-add-mod'}
use lib.ListN.{length, take, drop}
use lib.Seq.{paste, length-take-le}
use borrow.Author.Tests.{ltb-true, ltb-false}
use Rattle.rules.specs.IfElse.{if_else}
use Rattle.cuts.specs.Cuts.{least_of}

-- the library's lesser of two
pub least-is : (a b n : ℕ) → n ≡ min a b → n ≡ least_of a b
unfolding if_else
least-is a b n e = e ∙ go (ltb a b) refl
  where
    go : (t : Bool) → ltb a b ≡ t → min a b ≡ if_else t a b
    go true q = min-eq_left (omega (arith, ltb-true a b q))
    go false q = min-eq_right (ltb-false a b q)

-- as much of the input as was put
pub put_first : (piece input new : List ℕ) (have n : ℕ) → n ≤ length input → new ≡ paste piece have (take (n - 0) (drop 0 input)) (length (take (n - 0) (drop 0 input))) → new ≡ paste piece have (take n input) n
put_first piece input new have n h e = e ∙ ap (λ (k : ℕ). paste piece have (take k input) (length (take k input))) same ∙ ap (paste piece have (take n input)) (length-take-le n input h)
  where
    same : n - 0 ≡ n
    same = omega arith

pub rest-within : (size from len : ℕ) → (len - from) % size ≤ len
rest-within size from len = omega (arith, mod-le (len - from) size)

-- from `from` to the end of the whole records there are so many of them, and what is left over is short of one
module _ (size from len : ℕ) (pos : 0 < size) (within : from ≤ len) where
  abbrev pub stop : ℕ
  stop = len - (len - from) % size

  pub stop-after : from ≤ stop
  stop-after = omega (arith, mod-le (len - from) size)

  pub stop-whole : stop - from ≡ (len - from) / size * size
  stop-whole = omega (arith, div-add-mod' (len - from) size, mod-le (len - from) size)

  pub stop-left : len - stop < size
  stop-left = omega (arith, mod-lt (len - from) pos, mod-le (len - from) size)
