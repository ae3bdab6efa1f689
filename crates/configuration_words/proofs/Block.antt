-- The block that is read is the block in words, and there is one.
use Prim.Native.Nat.{ℕ, ◌+◌, ◌-◌, ◌<◌}
use mathlib.Core.Path.{◌≡◌, sym, ap, ◌∙◌}
use mathlib.Core.List.{List}
use mathlib.Core.Logic.{⊎_elim}
use lib.ListN.{length, take, drop, length-take, length-drop}
use native.Mathlib.Omega.{arith}
use Rattle.rules.specs.Walk.{Clean}
use Rattle.rules.proofs.Firsts.{lt-or-ge}
use Rattle.configuration_rules.specs.Descriptors.{after_at}
use Rattle.configuration_rules.specs.declared.Sought.TheVariants.{Outside}
use Rattle.interfaces.specs.Line.{course}
use Rattle.interfaces.specs.Inner.{block_start, block_end, block_of}
use Rattle.interfaces.proofs.Lines.{after_on, after-whole, next-is}
use Rattle.configuration_layout.specs.Words.{Starts, Run}
use Rattle.configuration_layout.proofs.Walked.{run}
use Rattle.configuration_words.specs.Block.{start_of, BlockLies, BlockIs}

-- no two runs that start at one place end apart
not-longer : (s : List ℕ) (a e f : ℕ) → Run s a e → Run s a f → e < f → ⊥
not-longer s a e f p q h = let t = p.longest (omega (arith, q.within)) in t.1 (q.each e t.0 p.order h)

pub one-run : (s : List ℕ) (a e f : ℕ) → Run s a e → Run s a f → e ≡ f
one-run s a e f p q =
    ⊎_elim (λ h. absurd (not-longer s a e f p q h)) (λ h. ⊎_elim (λ k. absurd (not-longer s a f e q p k)) (λ k. omega arith) (lt-or-ge f e)) (lt-or-ge e f)

module _ (s : List ℕ) (clean : Clean (course s)) (o : ℕ) (b : Starts s o) where
  -- where it starts and ends
  pub start_is : block_start s o ≡ start_of s o
  start_is = after-whole s o (clean b.seen o b.there b.inside).0

  block-end : block_start s o + (block_end s o - block_start s o) ≡ block_end s o
  block-end = let n = next-is s Outside (after_at s o) (after_on s o b.inside).1 in omega (arith, n.least)

  pub block-lies : BlockLies s o (block_start s o) (block_end s o - block_start s o)
  block-lies = record { start = start_is; run = rw block-end (run s clean b.there b.inside) }

  long : length (block_of s o) ≡ block_end s o - block_start s o
  long = let n = next-is s Outside (after_at s o) (after_on s o b.inside).1 in simp (length-take, length-drop) (omega (arith, n.within))

  pub block-is : BlockIs s o (block_of s o)
  block-is = record { lies = rw (long, ← start_is) block-lies; same = rw (long, ← start_is) }

  -- and no other is
  pub one_block : (x : List ℕ) → BlockIs s o x → x ≡ block_of s o
  one_block x w =
      let e = one-run s (start_of s o) (start_of s o + length x) (start_of s o + length (block_of s o)) w.lies.run block-is.lies.run in
      let n : length x ≡ length (block_of s o) = omega arith in
      w.same ∙ ap (λ (k : ℕ). take k (drop (start_of s o) s)) n ∙ sym block-is.same
