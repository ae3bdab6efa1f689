-- What the functions have, in the order of their code.
use Prim.Native.Nat.{ℕ, ◌+◌, ◌-◌, ◌≤◌, ◌<◌}
use mathlib.Core.Path.{◌≡◌, sym, ◌∙◌}
use mathlib.Core.List.{List}
use mathlib.Core.Bool.{Bool, true, false}
use lib.Dec.{eqb}
use borrow.Author.Tests.{lt-leb, le-leb, eq-eqb, ne_eqb}
use Rattle.rules.proofs.Places.{Seeking, found_here as found_at, not-here as not_at, none_here as none-at}
use lib.ListN.{length, take, drop, length-take, length-drop}
use native.Mathlib.Omega.{arith}
use Rattle.rules.specs.IfElse.{if_else}
use Rattle.std.specs.Prelude.{Ok, Err}
use Rattle.rules.specs.declared.Refused.{Refused}
use Rattle.rules.specs.Verdicts.{◌and_then◌, Verdict, accept, refuse}
use Rattle.entities.specs.declared.Table.{Table}
use Rattle.control.specs.Answer.{ControlIs}
use Rattle.control.specs.declared.Control.{Control}
use Rattle.streaming.specs.Inner.{streaming_of}
use Rattle.configuration_layout.specs.Inner.{layout_verdict}
use Rattle.configuration.specs.declared.Configuration.{Configuration}
use Rattle.configuration_rules.specs.Descriptors.{after_at, is_sought}
use Rattle.configuration_rules.specs.declared.Sought.TheVariants.{Listed, Outside}
use Rattle.interfaces.specs.Inner.{found, next_of, block_start, block_end, block_of, block_at, listed_in, streams_of, place_of}
use Rattle.interfaces.specs.declared.Stream.{Stream}
use Rattle.interfaces.specs.declared.Streams.{Streams}
use Rattle.interfaces.specs.declared.Block.{Block}
use Rattle.interfaces.proofs.Lines.{after_on, next-is, found_here, found-end}
use Rattle.configuration.specs.Answer.{entry_count, entry_at}
use Rattle.configuration.specs.Inner.{entries_named, verdict73, block_verdict, streams_by, late_by, LateIs, control_place, refused_by, accepted_with, ConfigurationIs, laid, blocks, sound}
use Rattle.configuration.proofs.Within.{control-within, streaming-within}

-- ---- the block behind the interface descriptor at o
module _ (s : List ℕ) (o : ℕ) (h : o < length s) (b : Block) (p : b ≡ block_at s o) where
  pub end_is : b.offset + b.length ≡ block_end s o
  unfolding block_at
  end_is = let n = next-is s Outside (after_at s o) (after_on s o h).1 in rw p (omega (arith, n.least))

  pub end-in : b.offset + b.length ≤ length s
  end-in = let n = next-is s Outside (after_at s o) (after_on s o h).1 in rw end_is n.within

  pub start_is : b.offset ≡ block_start s o
  unfolding block_at
  start_is = rw p

  pub bytes-are : take (b.offset + b.length - b.offset) (drop b.offset s) ≡ block_of s o
  bytes-are = rw (end_is, start_is)

  pub length-is : length (block_of s o) ≡ b.length
  length-is = rw (← bytes-are) (simp (length-take, length-drop) (omega (arith, end-in)))

  -- a streaming block's own refusal
  module _ (t : Table) (v : Verdict) (e : v ≡ (streaming_of t (take (b.offset + b.length - b.offset) (drop b.offset s))).verdict) where
    same_block : v ≡ (streaming_of t (block_of s o)).verdict
    same_block = rw bytes-are at e

    pub own-accepted : v ≡ accept → accept ≡ block_verdict s t o
    unfolding block_verdict
    own-accepted q = rw (← same_block, q)

    pub own_in : (k x : ℕ) → v ≡ refuse k x → b.offset + x ≤ length s
    own_in k x q = omega (arith, end-in, length-is, streaming-within t (block_of s o) k x (sym same_block ∙ q))

    pub own-refused : (k x : ℕ) → v ≡ refuse k x → refuse k (b.offset + x) ≡ block_verdict s t o
    unfolding block_verdict
    own-refused k x q = rw (← same_block, q, start_is)

-- ---- the streaming blocks in order of appearance: from `at` on they say what all of them say
pub record Judging (s : List ℕ) (t : Table) (at : ℕ) : Type 0 where
  pub within : at ≤ length s
  pub here : at < length s → is_sought Listed s at ≡ true
  pub same : streams_by s t (found Listed s at) ≡ streams_by s t (listed_in s)

module _ (s : List ℕ) (t : Table) where
  pub judging-starts : (r : ℕ) → r ≡ next_of Listed s 0 → Judging s t r
  judging-starts r e =
      let n = next-is s Listed 0 (omega arith) in
      rw e (record { within = n.within; here = n.here; same = rw n.same })

  module _ (at : ℕ) (g : Judging s t at) where
    pub judging-ends : length s ≤ at → accept ≡ streams_by s t (listed_in s)
    unfolding streams_by
    judging-ends h = rw (← g.same, found-end s Listed at h)

    module _ (h : at < length s) (v : Verdict) (e : v ≡ block_verdict s t at) where
      at-this : streams_by s t (listed_in s) ≡ v and_then streams_by s t (found Listed s (after_at s at))
      unfolding streams_by
      at-this = rw (← g.same, found_here s Listed at h (g.here h), e)

      pub judging-stops : (r : Refused) → v ≡ Err r → Err r ≡ streams_by s t (listed_in s)
      judging-stops r q = rw (at-this, q)

      pub judging-on : (u : Unit {0}) → v ≡ Ok u → (j r : ℕ) → j ≡ after_at s at → r ≡ next_of Listed s j → Judging s t r
      judging-on u q j r p f =
          let w : j ≤ length s = rw p (after_on s at h).1 in
          let n = next-is s Listed j w in
          rw f (record { within = n.within; here = n.here; same = rw (n.same, p) (sym (at-this ∙ (rw q))) })

-- ---- 73
module _ (b : List ℕ) (l : List Stream) (n m : ℕ) (e : m ≡ entry_count b) where
  module _ (j : ℕ) (w : Seeking (λ i. eqb (place_of l n (entry_at b i)) n) m j) (h : j < m) (x p : ℕ) (y : x ≡ entry_at b j) (q : p ≡ place_of l n x) where
    there : p ≡ place_of l n (entry_at b j)
    there = rw y at q

    pub an-entry : p ≡ n → false ≡ entries_named b l n
    unfolding entries_named
    an-entry z =
        let f = found_at (λ i. eqb (place_of l n (entry_at b i)) n) m j w h (eq-eqb (place_of l n (entry_at b j)) n (sym there ∙ z)) in
        rw (← e, ← f, lt-leb m j h)

    pub entry-on : (p ≡ n → ⊥) → Seeking (λ i. eqb (place_of l n (entry_at b i)) n) m (j + 1)
    entry-on z = not_at (λ i. eqb (place_of l n (entry_at b i)) n) m j w h (ne_eqb (place_of l n (entry_at b j)) n (λ v. z (there ∙ v)))

  pub no-entry : (j : ℕ) → Seeking (λ i. eqb (place_of l n (entry_at b i)) n) m j → m ≤ j → true ≡ entries_named b l n
  unfolding entries_named
  no-entry j w h =
      let f = none-at (λ i. eqb (place_of l n (entry_at b i)) n) m j w h in
      let z : m ≤ m = omega arith in
      rw (← e, ← f, le-leb m m z)

-- ---- the control block's own, 73, the streaming blocks' own
module _ (s : List ℕ) (o : ℕ) (h : o < length s) (b : Block) (p : b ≡ block_at s o) (c : Control) (r : ControlIs (take (b.offset + b.length - b.offset) (drop b.offset s)) c) where
  same-control : ControlIs (block_of s o) c
  same-control = rw (bytes-are s o h b p) at r

  pub late-in : (k x : ℕ) → c.verdict ≡ refuse k x → b.offset + x ≤ length s
  late-in k x q = omega (arith, end-in s o h b p, length-is s o h b p, control-within (block_of s o) c same-control k x q)

  pub late-control : (k x : ℕ) → c.verdict ≡ refuse k x → LateIs s o (refuse k (b.offset + x))
  unfolding late_by
  late-control k x q = record { answer = c; read = same-control; same = rw (q, start_is s o h b p) }

  module _ (q : c.verdict ≡ accept) (l : Streams) (e : l ≡ streams_of s) (t : Bool) (f : t ≡ entries_named (take (b.offset + b.length - b.offset) (drop b.offset s)) l.streams l.count) where
    named-is : t ≡ entries_named (block_of s o) (streams_of s).streams (streams_of s).count
    named-is = rw (← e) (rw (bytes-are s o h b p) at f)

    pub late-73 : t ≡ false → LateIs s o (refuse 73 b.offset)
    unfolding late_by verdict73 if_else
    late-73 z = record { answer = c; read = same-control; same = rw (q, ← named-is, z, start_is s o h b p) }

    pub late-rest : t ≡ true → (v : Verdict) → v ≡ streams_by s c.table (listed_in s) → LateIs s o v
    unfolding late_by verdict73 if_else
    late-rest z v w = record { answer = c; read = same-control; same = rw (q, ← named-is, z) w }

-- ---- the whole
module _ (s : List ℕ) where
  pub laid_out : (v : Verdict) → v ≡ layout_verdict s → (k o : ℕ) → v ≡ refuse k o → (x : Configuration) → x ≡ refused_by k o → ConfigurationIs s x
  laid_out v e k o q x y = rw y (laid k o (sym e ∙ q))

  module _ (w : Verdict) (e : w ≡ layout_verdict s) (a : w ≡ accept) (at : ℕ) (p : at ≡ control_place s) (v : Verdict) (l : LateIs s at v) where
    late-there : (u : Verdict) → v ≡ u → LateIs s (control_place s) u
    late-there u q = rw (← p, ← q) l

    pub blocks-refuse : (k o : ℕ) → v ≡ refuse k o → (x : Configuration) → x ≡ refused_by k o → ConfigurationIs s x
    blocks-refuse k o q x y = rw y (blocks k o (sym e ∙ a) (late-there (refuse k o) q))

    pub all_sound : v ≡ accept → (b : Block) → b ≡ block_at s at → (t : Streams) → t ≡ streams_of s → ConfigurationIs s (record { verdict = accept; control = b; count = t.count; streams = t.streams })
    unfolding accepted_with
    all_sound q b y t z = rw (y, z, p) (sound (sym e ∙ a) (late-there accept q))
