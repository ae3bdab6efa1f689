-- A block is refused by a rule of a descriptor exactly when that rule comes to be asked there and is broken; and for 39 and 40 in words.
use Rattle.rules.specs.Verdicts.{refuse}
use Prim.Native.Nat.{ℕ, ◌≤◌, ◌<◌}
use mathlib.Core.Path.{◌≡◌, refl}
use mathlib.Core.List.{List}
use mathlib.Core.Logic.{◌↔◌}
use lib.ListN.{length}
use native.Mathlib.Omega.{arith}
use Rattle.rules.specs.Numbered.{Given}
use Rattle.rules.specs.Walk.{FirstBreak, BrokenBy}
use Rattle.rules.proofs.Rows.{given-each}
use Rattle.rules.proofs.Walks.{first_by}
use Rattle.blocks.specs.Blocks.{whole_rows}
use Rattle.entities.specs.declared.Table.{Table}
use Rattle.streaming_rules.specs.Rules.{head_rows}
use Rattle.streaming_rules.specs.declared.Sofar.{Sofar}
use Rattle.streaming_rules.proofs.Sizes.{row-39}
use Rattle.streaming_rules.proofs.Flags.{row-40}
use Rattle.streaming_rules.proofs.Order.{once}
use Rattle.streaming.specs.Answer.{Seen, linked_to, link_of, sofar}
use Rattle.streaming.specs.Inner.{streaming_of}
use Rattle.streaming.specs.Broken.{BlockRight, block_course, FirstBroken, by-block, by-descriptor, by-36, by-37, by-38}
use Rattle.streaming.specs.Listed.{Untrue, Unsteady}
use Rattle.streaming.proofs.ExactlyWhen.{refused}

-- k is a number of a descriptor's rules: it is none of the block's, 20 to 24, and of the formats', 36 to 38
pub record OfDescriptor (k : ℕ) : Type 0 where
  pub above : 25 ≤ k
  pub no-36 : 36 ≡ k → ⊥
  pub no-37 : 37 ≡ k → ⊥
  pub no-38 : 38 ≡ k → ⊥

module _ (t : Table) (s : List ℕ) where
  -- what the descriptors before leave to the rules of the next one
  abbrev left : Seen → Sofar
  left a = sofar (linked_to t (link_of s)) a

  -- the block is right, and rule k comes to be asked at o and is broken
  abbrev pub Broken : ℕ → ℕ → Type 0
  Broken k o = BlockRight t s × BrokenBy (block_course t s) k o

  by-rule : (k o : ℕ) → FirstBreak (block_course t s) k o ↔ BrokenBy (block_course t s) k o
  by-rule k o = first_by (block_course t s) (λ a p. once s p (left a)) k o

  head_few : {k : ℕ} → Given (head_rows t.count s) k → k < 25
  unfolding head_rows whole_rows
  head_few g = given-each (λ k. k < 25) g (omega arith)

  module _ (k : ℕ) (d : OfDescriptor k) where
    to-broken : {j o : ℕ} → FirstBroken t s j o → j ≡ k → Broken k o
    to-broken (by-block j g) e = absurd (omega (arith, head_few g, d.above))
    to-broken (by-descriptor j o b f) e = (b, (by-rule k o).0 (rw e at f))
    to-broken (by-36 a w i l f) e = absurd (d.no-36 e)
    to-broken (by-37 a w c i l f) e = absurd (d.no-37 e)
    to-broken (by-38 a w c x n) e = absurd (d.no-38 e)

    -- EXACTLY WHEN, number by number
    pub refused-by : (o : ℕ) → ((streaming_of t s).verdict ≡ refuse k o) ↔ Broken k o
    refused-by o = (λ e. to-broken ((refused t s k o).0 e) refl, λ r. (refused t s k o).1 (by-descriptor k o r.0 ((by-rule k o).1 r.1)))

  -- ---- 39
  of-39 : OfDescriptor 39
  of-39 = record { above = omega arith; no-36 = λ e. omega arith; no-37 = λ e. omega arith; no-38 = λ e. omega arith }

  pub refused-39 : (o : ℕ) → ((streaming_of t s).verdict ≡ refuse 39 o) ↔ Untrue t s o
  refused-39 o = (λ e. to ((refused-by 39 of-39 o).0 e), λ u. (refused-by 39 of-39 o).1 (u.block, (u.comes, (row-39 s o (left u.comes.seen) (length u.comes.seen.formats)).1 (u.frame, u.asked, u.untrue))))
    where
      to : Broken 39 o → Untrue t s o
      to b =
          let r = (row-39 s o (left b.1.0.seen) (length b.1.0.seen.formats)).0 b.1.1 in
          record { block = b.0; comes = b.1.0; frame = r.0; asked = r.1; untrue = r.2 }

  -- ---- 40
  of-40 : OfDescriptor 40
  of-40 = record { above = omega arith; no-36 = λ e. omega arith; no-37 = λ e. omega arith; no-38 = λ e. omega arith }

  pub refused-40 : (o : ℕ) → ((streaming_of t s).verdict ≡ refuse 40 o) ↔ Unsteady t s o
  refused-40 o = (λ e. to ((refused-by 40 of-40 o).0 e), λ u. (refused-by 40 of-40 o).1 (u.block, (u.comes, (row-40 s o (left u.comes.seen)).1 u.wrong)))
    where
      to : Broken 40 o → Unsteady t s o
      to b = record { block = b.0; comes = b.1.0; wrong = (row-40 s o (left b.1.0.seen)).0 b.1.1 }
