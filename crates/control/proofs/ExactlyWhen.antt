-- A block is accepted exactly when no rule is broken; refused by k at o exactly when k is the first broken rule in the table's order, at the first place that
-- breaks it. An accepted table lists the block's entities; a refused one is all zero.
use Rattle.rules.specs.Verdicts.{Verdict, accept, refuse}
use Prim.Native.Nat.{ℕ, ◌<◌}
use mathlib.Core.Path.{◌≡◌, refl, sym, ap, ◌∙◌}
use mathlib.Core.List.{List}
use mathlib.Core.Logic.{◌↔◌}
use lib.ListN.{length}
use native.Mathlib.Omega.{arith}
use Rattle.rules.specs.Numbered.{Given}
use Rattle.rules.specs.First.{First}
use Rattle.rules.specs.Walk.{Outcome.done, walk, Clean, FirstBreak}
use Rattle.rules.proofs.Rows.{given-none, given-each}
use Rattle.rules.proofs.Verdicts.{apart, same-refusal}
use Rattle.rules.proofs.Walks.{walk-done, walk-stop}
use Rattle.blocks.specs.Blocks.{whole_rows}
use Rattle.entities.specs.Table.{no_table, entity_at}
use Rattle.entities.specs.declared.Entity.{Entity}
use Rattle.control_rules.specs.Rules.{head_rows, rows_in, kind_rows, entity_rows}
use Rattle.sources.specs.Sources.{Breaks13, Breaks14, Breaks15, NoEntity, Judged, Judged.thirteen, Judged.fourteen, Judged.fifteen, Judged.fine}
use Rattle.control.specs.Answer.{course, refused_by, table_of, ControlIs, ControlIs.block, ControlIs.descriptor, ControlIs.source, ControlIs.sound}
use Rattle.control.specs.Broken.{BlockRight, Entities, Sound, FirstEntity, Looped, FirstBroken, FirstBroken.by-block, FirstBroken.by-descriptor, FirstBroken.by-13, FirstBroken.by-14, FirstBroken.by-15}
use Rattle.control.specs.declared.Control.{Control}
use Rattle.control.proofs.Walking.{steady}
use Rattle.control.proofs.Unique.{same_seen, read-unique}

-- ---- none, and the first, of a list's entities
module _ (l : List Entity) (P : ℕ → Type 0) where
  to-entity : (i : ℕ) → i < length l → First P (length l) i → FirstEntity l P (entity_at l i).offset
  to-entity i h f = record { place = i; inside = h; broken = f.here h; earliest = f.before; at = refl }

  from-entity : (o : ℕ) (e : FirstEntity l P o) → First P (length l) e.place
  from-entity o e = let h = e.inside in record { within = omega arith; before = e.earliest; here = λ x. e.broken }

module _ (s : List ℕ) where
  -- ---- the block and its descriptors
  walked : (l : List Entity) → walk (course s) ≡ done l → Entities s l × Clean (course s)
  walked l e = (walk-done (course s) (steady s) l).0 e

  walks : (l : List Entity) → Entities s l → Clean (course s) → walk (course s) ≡ done l
  walks l r h = (walk-done (course s) (steady s) l).1 (r, h)

  -- a block whose descriptors are right has one list of entities
  pub one_list : Clean (course s) → (a b : List Entity) → Entities s a → Entities s b → a ≡ b
  one_list h a b p q = same_seen a b (sym (walks a p h) ∙ walks b q h)

  -- ---- accepted
  judged-kept : (l : List Entity) (v : Verdict) → Judged s l v → v ≡ accept → NoEntity l (Breaks13 s l) × NoEntity l (Breaks14 s l) × NoEntity l (Breaks15 s l)
  judged-kept l v (thirteen i h f) e = absurd (apart _ _ e)
  judged-kept l v (fourteen i h f g) e = absurd (apart _ _ e)
  judged-kept l v (fifteen i h f g k) e = absurd (apart _ _ e)
  judged-kept l v (fine f g k) e = (f, g, k)

  to-sound : {c : Control} → ControlIs s c → c.verdict ≡ accept → Sound s
  to-sound (block k e) q = absurd (apart _ _ q)
  to-sound (descriptor k o z y) q = absurd (apart _ _ q)
  to-sound (source l k o z y v) q = absurd (apart _ _ q)
  to-sound (sound l z y v) q =
      let w = walked l y in
      record { block = z; descriptors = w.1; sources = λ m r. let e : m ≡ l = one_list w.1 m l r w.0 in rw e (judged-kept l accept v refl) }

  not-judged : (l : List Entity) (v : Verdict) → Judged s l v → NoEntity l (Breaks13 s l) × NoEntity l (Breaks14 s l) × NoEntity l (Breaks15 s l) → v ≡ accept
  not-judged l v (thirteen i h f) k = absurd (k.0 i h (f.here h))
  not-judged l v (fourteen i h f g) k = absurd (k.1 i h (g.here h))
  not-judged l v (fifteen i h f g j) k = absurd (k.2 i h (j.here h))
  not-judged l v (fine f g j) k = refl

  from-sound : {c : Control} → ControlIs s c → Sound s → c.verdict ≡ accept
  from-sound (block k e) d = absurd (given-none e d.block)
  from-sound (descriptor k o z y) d = let f = (walk-stop (course s) (steady s) k o).0 y in absurd (given-none f.given (d.descriptors f.seen o f.there f.inside))
  from-sound (source l k o z y v) d = absurd (apart k o (not-judged l (refuse k o) v (d.sources l (walked l y).0)))
  from-sound (sound l z y v) d = refl

  -- ACCEPTED exactly when no rule is broken
  pub accepted : (c : Control) → ControlIs s c → (c.verdict ≡ accept) ↔ Sound s
  accepted c r = (to-sound r, from-sound r)

  -- ---- refused
  same-broken : (a b k o : ℕ) → refuse a b ≡ refuse k o → FirstBroken s a b → FirstBroken s k o
  same-broken a b k o e f = let w = same-refusal a b k o e in rw (← w.0, ← w.1) f

  judged-broken : (l : List Entity) (v : Verdict) → BlockRight s → Clean (course s) → Entities s l → Judged s l v → (k o : ℕ) → v ≡ refuse k o → FirstBroken s k o
  judged-broken l v z h r (thirteen i b f) k o e = same-broken _ _ k o e (by-13 l _ z h r (to-entity l (Breaks13 s l) i b f))
  judged-broken l v z h r (fourteen i b f g) k o e = same-broken _ _ k o e (by-14 l _ z h r f (to-entity l (Breaks14 s l) i b g))
  judged-broken l v z h r (fifteen i b f g j) k o e = same-broken _ _ k o e (by-15 l _ z h r f g (to-entity l (Breaks15 s l) i b j))
  judged-broken l v z h r (fine f g j) k o e = absurd (apart k o (sym e))

  to-first : {c : Control} → ControlIs s c → (k o : ℕ) → c.verdict ≡ refuse k o → FirstBroken s k o
  to-first (block j e) k o q = same-broken _ _ k o q (by-block j e)
  to-first (descriptor j p z y) k o q = same-broken _ _ k o q (by-descriptor j p z ((walk-stop (course s) (steady s) j p).0 y))
  to-first (source l j p z y v) k o q = same-broken _ _ k o q (judged-broken l _ z (walked l y).1 (walked l y).0 v j p refl)
  to-first (sound l z y v) k o q = absurd (apart k o (sym q))

  at_place : (k : ℕ) (l : List Entity) (P : ℕ → Type 0) (o : ℕ) (e : FirstEntity l P o) → Judged s l (refuse k (entity_at l e.place).offset) → Judged s l (refuse k o)
  at_place k l P o e j = rw e.at at j

  pub from_first : {k o : ℕ} → FirstBroken s k o → ControlIs s (refused_by k o)
  from_first (by-block k g) = block k g
  from_first (by-descriptor k o z f) = descriptor k o z ((walk-stop (course s) (steady s) k o).1 f)
  from_first (by-13 l o z h r e) =
      source l 13 o z (walks l r h) (at_place 13 l (Breaks13 s l) o e (thirteen e.place e.inside (from-entity l (Breaks13 s l) o e)))
  from_first (by-14 l o z h r a e) =
      source l 14 o z (walks l r h)
      (at_place 14 l (Breaks14 s l) o e (fourteen e.place e.inside a (from-entity l (Breaks14 s l) o e)))
  from_first (by-15 l o z h r a b e) =
      source l 15 o z (walks l r h)
      (at_place 15 l (Breaks15 s l) o e (fifteen e.place e.inside a b (from-entity l (Breaks15 s l) o e)))

  -- REFUSED by k at o exactly when k is the first broken rule, at the first place that breaks it
  pub refused : (c : Control) → ControlIs s c → (k o : ℕ) → (c.verdict ≡ refuse k o) ↔ FirstBroken s k o
  refused c r k o = (to-first r k o, λ f. ap (λ (x : Control). x.verdict) (read-unique s r (from_first f)))

  -- ---- 15
  pub head_few : {k : ℕ} → Given (head_rows s) k → k < 5
  unfolding whole_rows
  head_few g = given-each (λ k. k < 5) g (omega arith)

  pub rows_few : {k o : ℕ} → FirstBreak (course s) k o → k < 13
  unfolding rows_in kind_rows entity_rows
  rows_few f = given-each (λ k. k < 13) f.given (omega arith)

  to-loop : {k o : ℕ} → FirstBroken s k o → k ≡ 15 → Looped s o
  to-loop (by-block k g) e = absurd (omega (arith, head_few g))
  to-loop (by-descriptor k o z f) e = absurd (omega (arith, rows_few f))
  to-loop (by-13 l o z h r f) e = absurd (omega arith)
  to-loop (by-14 l o z h r a f) e = absurd (omega arith)
  to-loop (by-15 l o z h r a b f) e = record { block = z; descriptors = h; seen = l; entities = r; found = a; plain = b; loop = f }

  -- 15 is given exactly when nothing earlier is broken and some chain of sources returns to its start; at the first entity on such a chain
  pub fifteen-given : (c : Control) → ControlIs s c → (o : ℕ) → (c.verdict ≡ refuse 15 o) ↔ Looped s o
  fifteen-given c r o = (
    λ e. to-loop (to-first r 15 o e) refl,
    λ p. (refused c r 15 o).1 (by-15 p.seen o p.block p.descriptors p.entities p.found p.plain p.loop),
  )

  -- ---- the table
  -- an accepted table lists exactly the block's entities, in block order
  pub tables : {c : Control} → ControlIs s c → c.verdict ≡ accept → (seen : List Entity) × Entities s seen × (c.table ≡ table_of s seen)
  tables (block k e) q = absurd (apart _ _ q)
  tables (descriptor k o z y) q = absurd (apart _ _ q)
  tables (source l k o z y v) q = absurd (apart _ _ q)
  tables (sound l z y v) q = (l, (walked l y).0, refl)

  -- a refused one is all zero
  pub zero-table : {c : Control} → ControlIs s c → (k o : ℕ) → c.verdict ≡ refuse k o → c.table ≡ no_table
  zero-table (block j e) k o q = refl
  zero-table (descriptor j p z y) k o q = refl
  zero-table (source l j p z y v) k o q = refl
  zero-table (sound l z y v) k o q = absurd (apart k o (sym q))
