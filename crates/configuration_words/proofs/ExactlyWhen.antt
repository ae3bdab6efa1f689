-- A configuration is accepted exactly when no rule is broken, and refused by k at o exactly when k is the first broken rule, at the first place that breaks it.
use Rattle.std.specs.Prelude.{Err, Ok}
use Prim.Native.Nat.{ℕ, ◌+◌, ◌<◌}
use mathlib.Core.Path.{◌≡◌, refl, sym, ap, ◌∙◌}
use mathlib.Core.List.{List, [], ◌∷◌}
use mathlib.Core.Bool.{Bool, true, false}
use mathlib.Core.Logic.{⊎_elim, ◌↔◌}
use lib.ListN.{length, get_or, replicate}
use native.Mathlib.Omega.{arith}
use native.Mathlib.Nat.{eq-or-lt_of_le}
use Rattle.rules.specs.IfElse.{if_else}
use Rattle.rules.specs.Verdicts.{◌and_then◌, Verdict, accept, refuse}
use Rattle.rules.proofs.Firsts.{lt-or-ge}
use Rattle.rules.proofs.Verdicts.{apart, same-refusal}
use Rattle.rules.proofs.Walks.{walk-done}
use Rattle.entities.specs.declared.Entity.{Entity}
use Rattle.entities.specs.declared.Table.{Table}
use Rattle.sources.specs.Sources as sources
use Rattle.control.specs.Answer as control
use Rattle.control.specs.Broken as control-broken
use Rattle.control.specs.declared.Control.{Control}
use Rattle.control.proofs.Walking as control-walking
use Rattle.control.proofs.ExactlyWhen as control-exactly
use Rattle.streaming.specs.Inner.{streaming_of}
use Rattle.streaming.specs.Broken as streaming-broken
use Rattle.streaming.proofs.ExactlyWhen as streaming-exactly
use Rattle.configuration_rules.specs.declared.Sought.TheVariants as sought
use Rattle.configuration_rules.specs.Words.{ControlFirst}
use Rattle.configuration_rules.proofs.Deciding as deciding
use Rattle.interfaces.specs.Inner.{found, head_or, next_of, block_start, block_of, listed_in, streams_of}
use Rattle.interfaces.specs.Limits.{interfaces_most, no_stream}
use Rattle.configuration_layout.specs.Inner.{layout_verdict}
use Rattle.configuration_layout.specs.Words.{Starts}
use Rattle.configuration_layout.specs.Broken.{Laid}
use Rattle.configuration_layout.proofs.Walked.{lists}
use Rattle.configuration_layout.proofs.ExactlyWhen as layout
use Rattle.configuration.specs.Inner.{moved, entries_named, verdict73, block_verdict, streams_by, late_by, LateIs, control_place, refused_by, accepted_with, ConfigurationIs, laid, blocks, sound}
use Rattle.configuration.specs.Answer.{entry_count, entry_at, no_block}
use Rattle.configuration.specs.declared.Configuration.{Configuration}
use Rattle.configuration.proofs.Unique.{read-unique}
use Rattle.configuration_words.specs.Block.{start_of, BlockIs}
use Rattle.configuration_words.specs.Broken.{ListedAt, Named, AllNamed, ControlRight, StreamRight, Sound, FirstBroken, by_layout, by-control, by-73, by-streaming}
use Rattle.configuration_words.proofs.Block.{start_is, block-is, one_block}
use Rattle.configuration_words.proofs.Streams.{Judged, all_right, first-wrong, judged, one-judged, lists-streams, listed_at, place-of, all_named, named-all, one-unnamed, unnamed-one}

-- a block's verdict at its place
module _ (a : ℕ) where
  moved-right : (v : Verdict) → moved a v ≡ accept → v ≡ accept
  moved-right (Ok _) e = refl
  moved-right (Err r) e = absurd (apart r.number (a + r.offset) e)

  moved-wrong : (v : Verdict) (k o : ℕ) → moved a v ≡ refuse k o → (x : ℕ) × (v ≡ refuse k x) × (o ≡ a + x)
  moved-wrong (Ok _) k o e = absurd (apart k o (sym e))
  moved-wrong (Err r) k o e = let w = same-refusal r.number (a + r.offset) k o e in (r.offset, rw w.0, sym w.1)

module _ (s : List ℕ) where
  -- ---- the control interface is the one that the search finds
  head_at : (d : ℕ) (l : List ℕ) → 0 < length l → head_or d l ≡ get_or l 0 0
  head_at d [] h = absurd (omega arith)
  head_at d (x ∷ l) h = refl

  pub place_is : (c : ℕ) → Laid s c → control_place s ≡ c
  unfolding next_of
  place_is c l =
      let w = lists s l.kept.each sought.Control (ControlFirst s) (deciding.control s) in
      let i = w.all c l.one.starts l.one.control in
      let b : 0 < length (found sought.Control s 0) = omega (arith, i.1) in
      let e = w.each 0 b in
      head_at (length s) (found sought.Control s 0) b ∙ l.one.only (get_or (found sought.Control s 0) 0 0) e.0 e.1

  -- ---- a control block that breaks no rule is accepted with its entities
  module _ (b : List ℕ) (w : control-broken.Sound b) (l : List Entity) (e : control-broken.Entities b l) where
    control-accepts : control.ControlIs b (control.accepted_with b l)
    control-accepts =
        let k = w.sources l e in
        control.sound l w.block ((walk-done (control.course b) (control-walking.steady b) l).1 (e, w.descriptors)) (sources.fine k.0 k.1 k.2)

  -- ---- what comes after 70, 71, 72 and 75, with the control interface at c
  data Ends : Verdict → Type 0 where
    good : Sound s → Ends accept
    bad : (k o : ℕ) → FirstBroken s k o → Ends (refuse k o)

  module _ (c : ℕ) (l : Laid s c) where
    -- ---- the block of a descriptor
    the_block : (o : ℕ) → Starts s o → BlockIs s o (block_of s o)
    the_block o b = block-is s l.kept.each o b

    same_block : (o : ℕ) → Starts s o → (x : List ℕ) → BlockIs s o x → x ≡ block_of s o
    same_block o b x w = one_block s l.kept.each o b x w

    same_start : (o : ℕ) → Starts s o → block_start s o ≡ start_of s o
    same_start o b = start_is s l.kept.each o b

    -- the control block is the one that is read
    abbrev B : List ℕ
    B = block_of s c

    here : BlockIs s c B
    here = the_block c l.one.starts

    control-right : (b : List ℕ) (m : List Entity) → ControlRight s c b m → ControlRight s c B m
    control-right b m w = rw (same_block c l.one.starts b w.block) at w

    -- ---- the streaming blocks
    module _ (t : Table) (o : ℕ) (d : Starts s o) where
      stream-right : block_verdict s t o ≡ accept → StreamRight s t o
      unfolding block_verdict
      stream-right e =
          let p = (streaming-exactly.accepted t (block_of s o)).0 (moved-right (block_start s o) _ e) in
          record { bytes = block_of s o; block = the_block o d; seen = p.0; sound = p.1 }

      right-stream : StreamRight s t o → block_verdict s t o ≡ accept
      unfolding block_verdict
      right-stream r = rw ((streaming-exactly.accepted t (block_of s o)).1 (r.seen, rw (same_block o d r.bytes r.block) at r.sound))

      wrong-stream : (k x : ℕ) → block_verdict s t o ≡ refuse k x → (y : ℕ) × ((streaming_of t (block_of s o)).verdict ≡ refuse k y) × (x ≡ start_of s o + y)
      unfolding block_verdict
      wrong-stream k x e = rw (← same_start o d) (moved-wrong (block_start s o) _ k x e)

      stream-wrong : (e : List ℕ) → BlockIs s o e → (k y : ℕ) → streaming-broken.FirstBroken t e k y → block_verdict s t o ≡ refuse k (start_of s o + y)
      unfolding block_verdict
      stream-wrong e w k y f =
          rw (← same_start o d, (streaming-exactly.refused t (block_of s o) k y).1 (rw (same_block o d e w) at f))

    -- an earlier listed interface stands at an earlier place of the list
    earlier-place : (i : ℕ) → i < length (listed_in s) → (p : ℕ) → ListedAt s p → p < get_or (listed_in s) i 0 → (j : ℕ) × (j < i) × (get_or (listed_in s) j 0 ≡ p)
    earlier-place i b p d z =
        let q = place-of s c l p d in
        ⊎_elim (λ h. (q.0, h, q.2))
        (λ h. ⊎_elim (λ e. absurd (omega (arith, q.2, ap (λ (n : ℕ). get_or (listed_in s) n 0) e)))
        (λ e. absurd (omega (arith, q.2, (lists-streams s c l).order i q.0 e q.1))) (eq-or-lt_of_le {n = i} {m = q.0} h))
        (lt-or-ge q.0 i)

    module _ (m : List Entity) (w : ControlRight s c B m) (n : AllNamed s B) where
      abbrev T : Table
      T = control.table_of B m

      earlier-right : (i : ℕ) → i < length (listed_in s) → ((j : ℕ) → j < i → block_verdict s T (get_or (listed_in s) j 0) ≡ accept) → (p : ℕ) → ListedAt s p → p < get_or (listed_in s) i 0 → StreamRight s T p
      earlier-right i b h p d z =
          let q = earlier-place i b p d z in
          stream-right T p d.starts (rw q.2 at (h q.0 q.1))

      after-73 : (v : Verdict) → Judged s T (listed_in s) v → Ends v
      after-73 v (all_right h) =
          good (record { place = c; block = B; entities = m; control = w; named = n; blocks = λ o d. let p = place-of s c l o d in stream-right T o d.starts (rw p.2 at (h p.0 p.1)) })
      after-73 v (first-wrong i b h k x e) =
          let o = get_or (listed_in s) i 0 in
          let d = listed_at s c l i b in
          let q = wrong-stream T o d.starts k x e in
          rw q.2
          (bad k (start_of s o + q.0) (by-streaming c B m w n o d (earlier-right i b h) (block_of s o) (the_block o d.starts) k q.0 ((streaming-exactly.refused T (block_of s o) k q.0).0 q.1)))

    after-control : (m : List Entity) → ControlRight s c B m → (t : Bool) → entries_named B (streams_of s).streams (streams_of s).count ≡ t
        → Ends (if_else t accept (refuse 73 (block_start s c)) and_then streams_by s (control.table_of B m) (listed_in s))
    unfolding if_else
    after-control m w true e = after-73 m w (all_named s c l B e) (streams_by s (control.table_of B m) (listed_in s)) (judged s (control.table_of B m) (listed_in s))
    after-control m w false e = let j = one-unnamed s c l B e in rw (same_start c l.one.starts) (bad 73 (start_of s c) (by-73 c B m w j.0 j.1 j.2))

    after-layout : (a : Control) → control.ControlIs B a → (v : Verdict) → a.verdict ≡ v
        → Ends (moved (block_start s c) v and_then (verdict73 s B (block_start s c) and_then streams_by s a.table (listed_in s)))
    unfolding verdict73
    after-layout a r (Err w) e = rw (same_start c l.one.starts) (bad w.number (start_of s c + w.offset) (by-control c B l here w.number w.offset ((control-exactly.refused B a r w.number w.offset).0 e)))
    after-layout a r accept e =
        let t = control-exactly.tables B r e in
        rw t.2
        (after-control t.0 (record { laid = l; block = here; sound = (control-exactly.accepted B a r).0 e; entities = t.1 }) (entries_named B (streams_of s).streams (streams_of s).count) refl)

    late-ends : (v : Verdict) → LateIs s c v → Ends v
    unfolding late_by
    late-ends v r = rw r.same (after-layout r.answer r.read r.answer.verdict refl)

    -- ---- the other way round
    late-control : (b : List ℕ) → BlockIs s c b → (k x : ℕ) → control-broken.FirstBroken b k x → LateIs s c (refuse k (start_of s c + x))
    unfolding late_by
    late-control b w k x f =
        record { answer = control.refused_by k x; read = control-exactly.from_first B (rw (same_block c l.one.starts b w) at f); same = rw (same_start c l.one.starts) }

    module _ (m : List Entity) (w : ControlRight s c B m) where
      late-73 : entries_named B (streams_of s).streams (streams_of s).count ≡ false → LateIs s c (refuse 73 (start_of s c))
      unfolding late_by verdict73 if_else
      late-73 e = record { answer = control.accepted_with B m; read = control-accepts B w.sound m w.entities; same = rw (e, same_start c l.one.starts) }

      late-streams : AllNamed s B → (v : Verdict) → Judged s (control.table_of B m) (listed_in s) v → LateIs s c v
      unfolding late_by verdict73 if_else
      late-streams n v j =
          record {
            answer = control.accepted_with B m;
            read = control-accepts B w.sound m w.entities;
            same = rw (named-all s c l B n) (one-judged s (control.table_of B m) (listed_in s) v (streams_by s (control.table_of B m) (listed_in s)) j (judged s (control.table_of B m) (listed_in s)));
          }

      wrong_first : (o : ℕ) → ListedAt s o → ((p : ℕ) → ListedAt s p → p < o → StreamRight s (control.table_of B m) p) → (e : List ℕ) → BlockIs s o e → (k x : ℕ) → streaming-broken.FirstBroken (control.table_of B m) e k x
          → Judged s (control.table_of B m) (listed_in s) (refuse k (start_of s o + x))
      wrong_first o d h e q k x f =
          let i = place-of s c l o d in
          first-wrong i.0 i.1
          (λ j b. let g = listed_at s c l j (omega (arith, i.1)) in right-stream (control.table_of B m) (get_or (listed_in s) j 0) g.starts (h (get_or (listed_in s) j 0) g (omega (arith, (lists-streams s c l).order j i.0 b i.1, i.2))))
          k (start_of s o + x) (rw i.2 (stream-wrong (control.table_of B m) o d.starts e q k x f))

    -- at the place that the search finds
    found-late : (v : Verdict) → LateIs s c v → LateIs s (control_place s) v
    found-late v r = rw (place_is c l) r

    late-found : (v : Verdict) → LateIs s (control_place s) v → LateIs s c v
    late-found v r = rw (place_is c l) at r

    laid_out : layout_verdict s ≡ accept
    laid_out = (layout.laid s).1 (c, l)

    -- what is said of the control block in words is said of the one that is read
    config-73 : (b : List ℕ) (m : List Entity) → ControlRight s c b m → b ≡ B → (j : ℕ) → j < entry_count b → (Named s (entry_at b j) → ⊥) → ConfigurationIs s (refused_by 73 (start_of s c))
    config-73 b m w e j h n =
        blocks 73 (start_of s c) laid_out (found-late _ (late-73 m (control-right b m w) (unnamed-one s c l B j (rw e at h) (rw e at n))))

    config-streams : (b : List ℕ) (m : List Entity) → ControlRight s c b m → b ≡ B → AllNamed s b → (v : Verdict) → Judged s (control.table_of b m) (listed_in s) v → LateIs s (control_place s) v
    config-streams b m w e n v j = found-late v (late-streams m (control-right b m w) (rw e at n) v (rw e at j))

  config-bad : {k o : ℕ} → FirstBroken s k o → ConfigurationIs s (refused_by k o)
  config-bad (by_layout k o f) = laid k o ((layout.mislaid s k o).1 f)
  config-bad (by-control c b l w k x f) = blocks k (start_of s c + x) (laid_out c l) (found-late c l _ (late-control c l b w k x f))
  config-bad (by-73 c b m w j h n) = let l = w.laid in config-73 c l b m w (same_block c l c l.one.starts b w.block) j h n
  config-bad (by-streaming c b m w n o d h e q k x f) =
      let l = w.laid in
      let z = same_block c l c l.one.starts b w.block in
      blocks k (start_of s o + x) (laid_out c l)
      (config-streams c l (block_of s c) m (control-right c l b m w) refl (rw z at n) _ (wrong_first c l m (control-right c l b m w) o d (rw z at h) e q k x (rw z at f)))

  config-good : Sound s → ConfigurationIs s (accepted_with s)
  config-good w =
      let c = w.place in
      let l = w.control.laid in
      let T = control.table_of w.block w.entities in
      sound (laid_out c l)
      (config-streams c l w.block w.entities w.control (same_block c l c l.one.starts w.block w.control.block) w.named accept
      (all_right (λ i b. let d = listed_at s c l i b in right-stream c l T (get_or (listed_in s) i 0) d.starts (w.blocks (get_or (listed_in s) i 0) d))))

  config-ends : {r : Configuration} → ConfigurationIs s r → Ends r.verdict
  unfolding refused_by accepted_with
  config-ends (laid k o e) = bad k o (by_layout k o ((layout.mislaid s k o).0 e))
  config-ends (blocks k o e r) = let l = (layout.laid s).0 e in late-ends l.0 l.1 (refuse k o) (late-found l.0 l.1 (refuse k o) r)
  config-ends (sound e r) = let l = (layout.laid s).0 e in late-ends l.0 l.1 accept (late-found l.0 l.1 accept r)

  -- ACCEPTED exactly when no rule is broken
  pub accepted : (r : Configuration) → ConfigurationIs s r → (r.verdict ≡ accept) ↔ Sound s
  unfolding accepted_with
  accepted r c = (to r.verdict (config-ends c), λ w. ap (λ (x : Configuration). x.verdict) (read-unique s c (config-good w)))
    where
      to : (v : Verdict) → Ends v → v ≡ accept → Sound s
      to v (good w) e = w
      to v (bad k o f) e = absurd (apart k o e)

  -- REFUSED by k at o exactly when k is the first broken rule, at the first place that breaks it
  pub refused : (r : Configuration) → ConfigurationIs s r → (k o : ℕ) → (r.verdict ≡ refuse k o) ↔ FirstBroken s k o
  unfolding refused_by
  refused r c k o = (to r.verdict (config-ends c), λ f. ap (λ (x : Configuration). x.verdict) (read-unique s c (config-bad f)))
    where
      to : (v : Verdict) → Ends v → v ≡ refuse k o → FirstBroken s k o
      to v (good w) e = absurd (apart k o (sym e))
      to v (bad j p f) e = let w = same-refusal j p k o e in rw (← w.0, ← w.1) f

  -- A REFUSED ONE is all zero
  pub zero-configuration : {r : Configuration} → ConfigurationIs s r → (k o : ℕ) → r.verdict ≡ refuse k o → (r.control ≡ no_block) × (r.count ≡ 0) × (r.streams ≡ replicate interfaces_most no_stream)
  unfolding refused_by accepted_with
  zero-configuration (laid j p e) k o q = (refl, refl, refl)
  zero-configuration (blocks j p e l) k o q = (refl, refl, refl)
  zero-configuration (sound e l) k o q = absurd (apart k o (sym q))
