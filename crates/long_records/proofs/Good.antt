-- A LONG RECORD THAT IS WRITTEN IS GOOD, and says what was written.
use Prim.Native.Nat.{ℕ, zero, suc, ◌+◌, ◌-◌, ◌≤◌}
use mathlib.Core.Path.{◌≡◌, refl, sym, ap, ◌∙◌}
use mathlib.Core.Bool.{Bool, true, false, not, ◌&&◌}
use mathlib.Core.List.{List, []}
use mathlib.Core.Logic.{◌⊎◌, inl, inr}
use native.Mathlib.Omega.{arith}
use native.Mathlib.Nat.{div-add-mod'}
use lib.ListN.{length, take, drop, replicate, length-append, length-replicate}
use lib.Seq.{take_at, drop_at, drop-drop}
use lib.Dec.{eqb}
use borrow.Author.Tests.{eq-eqb, le-ltb}
use Rattle.fill.specs.Fill.{any_set}
use Rattle.records.specs.declared.Form.TheVariants.{Long}
use Rattle.records.specs.Record.{length_at, bytes_at, record_bad}
use Rattle.long_records.specs.Long.{long_of, data_most, long_size}
use Rattle.long_records.specs.Good.{GoodLong}

none-set : (k : ℕ) → any_set (replicate k 0) ≡ false
unfolding any_set
none-set zero = refl
none-set (suc k) = none-set k

module _ (kind : ℕ) (bytes : List ℕ) (small : length bytes ≤ data_most) where
  abbrev n : ℕ
  n = length bytes

  abbrev zeros : List ℕ
  zeros = replicate (data_most - n) 0

  abbrev L : List ℕ
  L = long_of kind bytes

  size_is : length L ≡ long_size
  size_is = omega (arith, small, length-append bytes zeros, length-replicate {A = ℕ} (data_most - n) 0)

  length-is : length_at Long L ≡ n
  length-is = omega (arith, div-add-mod' n 256)

  bytes-are : bytes_at Long L ≡ bytes
  bytes-are = ap (λ (k : ℕ). take k (drop 4 L)) length-is ∙ take_at bytes zeros n refl

  fill_is : drop (4 + length_at Long L) L ≡ zeros
  fill_is = ap (λ (k : ℕ). drop (4 + k) L) length-is ∙ sym (drop-drop n 4 L) ∙ drop_at bytes zeros n refl

  good-is : kind ≤ 2 → (not (eqb kind 0) && not (eqb n 0)) ≡ false → record_bad Long L ≡ false
  unfolding record_bad
  good-is h e = rw (eq-eqb (length L) long_size size_is, le-ltb 2 kind h, fill_is, length-is, le-ltb data_most n small, e) (none-set (data_most - n))

  empty-fits : (kind ≡ 0) ⊎ (bytes ≡ []) → (not (eqb kind 0) && not (eqb n 0)) ≡ false
  empty-fits (inl e) = rw (eq-eqb kind 0 e)
  empty-fits (inr e) = ap (λ (b : Bool). not (eqb kind 0) && not b) (eq-eqb n 0 (ap length e)) ∙ and-false (not (eqb kind 0))
    where
      and-false : (b : Bool) → (b && false) ≡ false
      and-false true = refl
      and-false false = refl

pub good-long : (kind : ℕ) (bytes : List ℕ) → kind ≤ 2 → length bytes ≤ data_most → (kind ≡ 0) ⊎ (bytes ≡ []) → GoodLong kind bytes
good-long kind bytes h small e = record {
  good = good-is kind bytes small h (empty-fits kind bytes small e);
  size = size_is kind bytes small;
  kind-there = refl;
  length-there = length-is kind bytes small;
  bytes-there = bytes-are kind bytes small;
}
