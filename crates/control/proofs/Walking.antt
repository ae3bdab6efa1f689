-- The walk's invariant, and how it starts, goes on and ends.
use Rattle.rules.specs.Verdicts.{Verdict, accept, refuse}
use Prim.Native.Nat.{ℕ, ◌+◌, ◌-◌, ◌≤◌, ◌<◌}
use mathlib.Core.Path.{◌≡◌, refl, sym, ap, ◌∙◌}
use mathlib.Core.List.{List, [], ◌∷◌, ◌++◌, append-nil}
use mathlib.Core.Bool.{Bool, true, false, ◌||◌, or_assoc, or-false}
use lib.ListN.{length, set, replicate, length-append}
use lib.Seq.{take_at}
use lib.Dec.{eqb}
use borrow.Author.Tests.{not-false, leb-false}
use native.Mathlib.Omega.{arith}
use Rattle.le.specs.Le.{byte, le32_at}
use Rattle.rules.specs.IfElse.{if_else}
use Rattle.rules.specs.Pad.{pad}
use Rattle.std.specs.Prelude.{Ok, Err}
use Rattle.rules.specs.Numbered.{first_row, NoneOf, is_broken, kept}
use Rattle.rules.proofs.Kept.{err-is, ok-is, err-above}
use Rattle.rules.specs.Walk.{Outcome.done, walk, broken_at}
use Rattle.rules.proofs.Rows.{Numbered, none-broken, row-none, row_gives}
use Rattle.rules.proofs.Padded.{pad-set}
use Rattle.rules.proofs.Walks.{Steady, Walking, starts, stops, ends, goes}
use Rattle.blocks.specs.Blocks.{whole_rows}
use Rattle.blocks.proofs.Right.{placed, sizes}
use Rattle.entities.specs.Table.{entities_most, no_entity, no_table, used}
use Rattle.entities.specs.declared.Entity.{Entity}
use Rattle.entities.specs.declared.Table.{Table}
use Rattle.entities.specs.declared.Revision.{Revision}
use Rattle.used_ids.specs.Marks.{no_marks, marked, with_mark}
use Rattle.used_ids.proofs.Sets.{Good, good_none, good-with, none-marked, with-marked}
use Rattle.control_rules.specs.Descriptors.{len_at, revision_of, known_as, kind_of, kind_at, is_entity, Shaped}
use Rattle.control_rules.specs.Rules.{limits, head_rows, pins_right, entity_rows, kind_rows, rows_in, rows, entity_of, entities_at}
use Rattle.control_rules.proofs.Shortest.{sub-room, id-room}
use Rattle.sources.specs.Sources.{Judged}
use Rattle.control.specs.Answer.{used_before, course, refused_by, ControlIs, ControlIs.block, ControlIs.descriptor, ControlIs.source, ControlIs.sound}
use Rattle.control.specs.declared.Control.{Control}

-- ---- what holds of a descriptor that breaks no rule
pub record Fine (s : List ℕ) (o : ℕ) (u : Bool) (n : ℕ) : Type 0 where
  pub shaped : Shaped (kind_at s o) s o
  pub few : is_entity (kind_at s o) ≡ true → n < entities_most
  pub fresh : is_entity (kind_at s o) ≡ true → u ≡ false
  pub nonzero : is_entity (kind_at s o) ≡ true → eqb (byte s o 3) 0 ≡ false
  pub pins : pins_right (kind_at s o) s o ≡ true

pub fine : (s : List ℕ) (o : ℕ) (u : Bool) (n : ℕ) → NoneOf (rows s o u n) → Fine s o u n
unfolding rows_in kind_rows entity_rows is_broken if_else
fine s o u n d = let p = placed s o (whole 5) in record {
  shaped = record { long = p.long; inside = p.inside; right = not-false _ (whole 7) };
  few = λ e. leb-false entities_most n (rw e at (whole 11));
  fresh = λ e. rw e at (whole 10);
  nonzero = λ e. rw e at (whole 9);
  pins = not-false _ (whole 12);
}
  where
    -- rule k is kept
    whole : (k : ℕ) → is_broken k (rows s o u n) ≡ false
    whole k = none-broken (rows s o u n) k d

-- no rule has number 0
pub head-numbered : (s : List ℕ) → Numbered (head_rows s)
unfolding whole_rows
head-numbered s = omega arith

pub numbered : (s : List ℕ) (o : ℕ) (u : Bool) (n : ℕ) → Numbered (rows s o u n)
unfolding rows_in kind_rows entity_rows
numbered s o u n = omega arith

-- ---- the course is steady: a descriptor that breaks no rule has a length and lies within the block
pub steady : (s : List ℕ) → Steady (course s)
steady s = record {
  numbered = λ seen o. numbered s o (used_before seen (byte s o 3)) (length seen);
  onward = λ seen o h e. let f = (fine s o (used_before seen (byte s o 3)) (length seen) e).shaped.long in omega arith;
  inside = λ seen o h e. (fine s o (used_before seen (byte s o 3)) (length seen) e).shaped.inside;
}

-- ---- the loop's invariant: the table holds the entities so far, and their IDs are marked
pub record Reading (s : List ℕ) (t : Table) (m : List ℕ) (at : ℕ) : Type 0 where
  pub seen : List Entity
  pub walking : Walking (course s) seen at
  pub counted : t.count ≡ length seen
  pub room : length seen ≤ entities_most
  pub kept : t.entities ≡ pad entities_most no_entity seen
  pub good : Good m
  pub ids : (i : ℕ) → i < 256 → marked m i ≡ used_before seen i

pub begins : (s : List ℕ) → Reading s no_table no_marks 0
unfolding used_before
begins s = record { seen = []; walking = starts (course s); counted = refl; room = omega arith; kept = refl; good = good_none; ids = none-marked }

-- what the code asks of a subtype, by the block's revision
pub said-entity : (s : List ℕ) (o : ℕ) (v : Revision) (z : ℕ) (r b : Bool) → v ≡ revision_of s → z ≡ known_as v (byte s o 2) → r ≡ is_entity (kind_of z) → r ≡ b → is_entity (kind_at s o) ≡ b
said-entity s o v z r b e k i q = rw (← e, ← k) (sym i ∙ q)

-- ---- one turn of the walk: a descriptor stands here, after what was read
pub record Turn (s : List ℕ) (t : Table) (m : List ℕ) (o : ℕ) : Type 0 where
  pub reading : Reading s t m o
  pub small : byte s o 3 < 256
  pub inside : o < length s

-- the first rule that it breaks, as the code counts
abbrev pub rule_here : List ℕ → Table → List ℕ → ℕ → ℕ
rule_here s t m o = first_row (rows s o (marked m (byte s o 3)) t.count)

used_before-more : (l : List Entity) (e : Entity) (i : ℕ) → used_before (l ++ (e ∷ [])) i ≡ (used_before l i || eqb e.id i)
unfolding used_before
used_before-more [] e i = or-false _
used_before-more (x ∷ l) e i = ap (λ b. eqb x.id i || b) (used_before-more l e i) ∙ sym (or_assoc (eqb x.id i) (used_before l i) (eqb e.id i))

module _ (s : List ℕ) (t : Table) (m : List ℕ) (o : ℕ) (w : Turn s t m o) where
  same-rule : rule_here s t m o ≡ broken_at (course s) w.reading.seen o
  same-rule = rw (w.reading.ids (byte s o 3) w.small, w.reading.counted)

  -- it breaks a rule
  pub refuses : (r : ℕ) (x : Control) → NoneOf (head_rows s) → Err r ≡ kept (rule_here s t m o) → x ≡ refused_by r o → ControlIs s x
  refuses r x z e q =
      rw q (descriptor r o z (stops (course s) w.reading.seen o w.reading.walking r w.inside (sym same-rule ∙ err-is r _ e) (λ n. omega (arith, err-above r _ e, n))))

  -- it breaks none
  module _ (none : rule_here s t m o ≡ 0) where
    pub fine-here : Fine s o (marked m (byte s o 3)) t.count
    fine-here = fine s o (marked m (byte s o 3)) t.count (row-none (rows s o (marked m (byte s o 3)) t.count) (numbered s o (marked m (byte s o 3)) t.count) none)

    pub has_sub : o + 2 < length s
    has_sub = sub-room (kind_at s o) s o fine-here.shaped

    onward : Walking (course s) (w.reading.seen ++ entities_at s o) (o + len_at s o)
    onward = goes (course s) w.reading.seen o w.reading.walking (steady s) w.inside (row-none ((course s).rows w.reading.seen o) ((steady s).numbered w.reading.seen o) (sym same-rule ∙ none))

    pub stays : is_entity (kind_at s o) ≡ false → Reading s t m (o + len_at s o)
    unfolding entities_at if_else
    stays e = record {
      seen = w.reading.seen;
      walking = rw (e, append-nil) at onward;
      counted = w.reading.counted;
      room = w.reading.room;
      kept = w.reading.kept;
      good = w.reading.good;
      ids = w.reading.ids;
    }

    module _ (e : is_entity (kind_at s o) ≡ true) where
      pub has-id : o + 3 < length s
      has-id = id-room (kind_at s o) s o fine-here.shaped e

      pub has-place : t.count < entities_most
      has-place = fine-here.few e

      pub gains : (t' : Table) (m' : List ℕ) → t'.count ≡ t.count + 1 → t'.entities ≡ set t.entities t.count (entity_of s o) → m' ≡ with_mark m (byte s o 3)
          → Reading s t' m' (o + len_at s o)
      unfolding entities_at if_else
      gains t' m' n l k =
          let few : length w.reading.seen < entities_most = omega (arith, has-place, w.reading.counted) in
          record {
            seen = w.reading.seen ++ (entity_of s o ∷ []);
            walking = rw e at onward;
            counted = n ∙ (rw w.reading.counted (simp length-append));
            room = simp length-append (omega arith);
            kept = l ∙ (rw (w.reading.kept, w.reading.counted) (pad-set entities_most no_entity w.reading.seen (entity_of s o) few));
            good = rw k (good-with m (byte s o 3) w.reading.good);
            ids = λ i b. rw k (with-marked m (byte s o 3) i w.reading.good w.small b ∙ (rw (w.reading.ids i b) (sym (used_before-more w.reading.seen (entity_of s o) i))));
          }

-- ---- the end of the walk
pub head-sizes : (s : List ℕ) → NoneOf (head_rows s) → (12 ≤ length s) × (length s ≤ 4096)
head-sizes s n = sizes limits s n

module _ (s : List ℕ) (t : Table) (m : List ℕ) (o : ℕ) (w : Reading s t m o) where
  pub few-entities : t.count ≤ entities_most
  few-entities = rw w.counted w.room

  all-used : used t ≡ w.seen
  all-used = rw (w.kept, w.counted) (take_at w.seen (replicate (entities_most - length w.seen) no_entity) (length w.seen) refl)

  module _ (z : NoneOf (head_rows s)) (h : length s ≤ o) (v : Verdict) (j : Judged s (used t) v) where
    walked : walk (course s) ≡ done w.seen
    walked = ends (course s) w.seen o w.walking h

    pub accepts : (k : ℕ) (x : Revision) → v ≡ accept → k ≡ le32_at s 7 → x ≡ revision_of s → ControlIs s (record { verdict = accept; table = record { count = t.count; entities = t.entities; clock = k; revision = x } })
    accepts k x e q y = rw (q, y, w.kept, w.counted) (sound w.seen z walked (rw (e, all-used) at j))

    pub rejects : (k p : ℕ) (x : Control) → v ≡ refuse k p → x ≡ refused_by k p → ControlIs s x
    rejects k p x e q = rw q (source w.seen k p z walked (rw (e, all-used) at j))

-- ---- before the walk
pub head-bad : (s : List ℕ) (r : ℕ) (x : Control) → Err r ≡ kept (first_row (head_rows s)) → x ≡ refused_by r 0 → ControlIs s x
head-bad s r x e q = rw q (block r (row_gives (head_rows s) r (sym (err-is r _ e)) (λ n. omega (arith, err-above r _ e, n))))

pub head-right : (s : List ℕ) (u : Unit {0}) → Ok u ≡ kept (first_row (head_rows s)) → NoneOf (head_rows s)
head-right s u e = row-none (head_rows s) (head-numbered s) (ok-is u _ e)
