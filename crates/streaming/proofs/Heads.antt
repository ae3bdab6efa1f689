-- The block as a whole: what comes of 20 to 24.
use Prim.Native.Nat.{ℕ, zero, suc, ◌≤◌, ◌<◌}
use mathlib.Core.Path.{◌≡◌, refl, sym, ◌∙◌}
use mathlib.Core.List.{List}
use mathlib.Core.Bool.{Bool}
use lib.ListN.{length}
use Rattle.std.specs.Prelude.{Result, Ok, Err}
use native.Mathlib.Omega.{arith}
use Rattle.rules.specs.Numbered.{first_row, kept}
use Rattle.rules.proofs.Kept.{kept-err, kept-ok, err-above}
use Rattle.rules.proofs.Rows.{row-none}
use Rattle.entities.specs.declared.Table.{Table}
use Rattle.streaming_rules.specs.Rules.{head_rows}
use Rattle.streaming_rules.proofs.Fine.{head-numbered, head-sizes}
use Rattle.streaming.specs.Answer.{linked_to, link_of, refused_by}
use Rattle.streaming.specs.Inner.{walked, after_head, streaming_of}
use Rattle.streaming.specs.declared.Streaming.{Streaming}

module _ (t : Table) (s : List ℕ) (r : Result (Unit {0}) ℕ) (e : r ≡ kept (first_row (head_rows t.count s))) where
  pub head-bad : (x : Streaming) (k : ℕ) → r ≡ Err k → x ≡ refused_by k 0 → x ≡ streaming_of t s
  unfolding streaming_of after_head
  head-bad x k n f = f ∙ (rw (kept-err k (first_row (head_rows t.count s)) (sym e ∙ n)) (go k (err-above k (first_row (head_rows t.count s)) (sym n ∙ e))))
    where
      go : (k : ℕ) → 0 < k → refused_by k 0 ≡ after_head k t s
      go zero n = absurd (omega arith)
      go (suc k) n = refl

  module _ (z : r ≡ Ok tt) where
    whole : first_row (head_rows t.count s) ≡ 0
    whole = kept-ok tt (first_row (head_rows t.count s)) (sym e ∙ z)

    pub head-good : (l : Bool) (x : Streaming) → l ≡ linked_to t (link_of s) → x ≡ walked l s → x ≡ streaming_of t s
    unfolding streaming_of after_head
    head-good l x g f = rw (whole, ← g) f

    pub block-sizes : (13 ≤ length s) × (length s ≤ 16384)
    block-sizes = head-sizes t.count s (row-none (head_rows t.count s) (head-numbered t.count s) whole)

-- the same of a descriptor
pub none-broken : (x : Result (Unit {0}) ℕ) (r : ℕ) → x ≡ kept r → x ≡ Ok tt → 0 ≡ r
none-broken x r e q = sym (kept-ok tt r (sym e ∙ q))

pub is-broken : (x : Result (Unit {0}) ℕ) (k r : ℕ) → x ≡ kept r → x ≡ Err k → k ≡ r
is-broken x k r e q = sym (kept-err k r (sym e ∙ q))

pub not-zero : (x : Result (Unit {0}) ℕ) (k r : ℕ) → x ≡ kept r → x ≡ Err k → k ≡ 0 → ⊥
not-zero x k r e q z = omega (arith, err-above k r (sym q ∙ e))
