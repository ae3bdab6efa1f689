-- The entities of a block that breaks no rule: each stands where it says, as its descriptor has it, with an ID of its own, and none is left out.
use Rattle.std.specs.Prelude.{None, Option, Some}
use Rattle.rules.specs.Verdicts.{accept}
use Prim.Native.Nat.{ℕ, zero, suc, ◌+◌, ◌≤◌, ◌<◌}
use mathlib.Core.Path.{◌≡◌, refl, sym, ap, ◌∙◌}
use mathlib.Core.List.{List, [], ◌∷◌, ◌++◌, append-nil}
use mathlib.Core.Bool.{Bool, true, false}
use mathlib.Core.Logic.{⊎_elim}
use lib.ListN.{length, take, length-append, get_or-append}
use lib.Dec.{leb, eqb}
use borrow.Author.Tests.{eqb-false, leb-true}
use native.Mathlib.Omega.{arith}
use Rattle.le.specs.Le.{byte}
use Rattle.rules.specs.IfElse.{if_else}
use Rattle.rules.specs.Walk.{Reached, first, next, Clean}
use Rattle.rules.proofs.Firsts.{lt-or-ge}
use Rattle.rules.proofs.Growing.{at_old, at_new, each_more}
use Rattle.rules.proofs.Passing.{passes}
use Rattle.rules.proofs.Rows.{or-first, or-second, and_first, and_second}
use Rattle.entities.specs.Table.{entities_most, no_entity, entity_at, find_from}
use Rattle.entities.specs.declared.Entity.{Entity}
use Rattle.entities.proofs.Finding.{found_within}
use Rattle.control_rules.specs.Descriptors.{Kind, selector, extension, revision_of, known_as, kind_of, kind_at, len_at, is_entity, source_place}
use Rattle.control_rules.specs.Rules.{pin_count, pins_right, entity_of, entities_at}
use Rattle.control_rules.proofs.Within.{sources-within}
use Rattle.control_rules.proofs.Subtypes.{entity-known}
use Rattle.sources.specs.Sources.{sources_of, source_at}
use Rattle.control.specs.Answer.{used_before, course, table_of, ControlIs}
use Rattle.control.specs.Broken.{Entities, Sound}
use Rattle.control.specs.Listed.{Starts, Stands, Distinct, Named, Listed}
use Rattle.control.specs.declared.Control.{Control}
use Rattle.control.proofs.Walking.{Fine, fine}
use Rattle.control.proofs.ExactlyWhen.{accepted, tables}

-- 12: p is 1 to 16
few-pins : (p : ℕ) → pin_count p ≡ true → (1 ≤ p) × (p ≤ 16)
unfolding pin_count
few-pins p h = (leb-true 1 p (and_first _ _ h), leb-true p 16 (and_second (leb 1 p) _ h))

selector-few : (k : Kind) (s : List ℕ) (o : ℕ) → pins_right k s o ≡ true → k ≡ selector → (1 ≤ byte s o 4) × (byte s o 4 ≤ 16)
unfolding pins_right
selector-few k s o h e = few-pins (byte s o 4) (rw e at h)

extension-few : (k : Kind) (s : List ℕ) (o : ℕ) → pins_right k s o ≡ true → k ≡ extension → (1 ≤ byte s o 21) × (byte s o 21 ≤ 16)
unfolding pins_right
extension-few k s o h e = few-pins (byte s o 21) (rw e at h)

-- an ID that was not used before is that of no entity of the list
unused : (l : List Entity) (x : ℕ) → used_before l x ≡ false → (i : ℕ) → i < length l → (entity_at l i).id ≡ x → ⊥
unfolding used_before
unused [] x h i hi q = omega arith
unused (e ∷ l) x h zero hi q = eqb-false e.id x (or-first (eqb e.id x) (used_before l x) h) q
unused (e ∷ l) x h (suc i) hi q = unused l x (or-second (eqb e.id x) (used_before l x) h) i (omega arith) q

distinct_more : (l : List Entity) (e : Entity) → Distinct l → ((i : ℕ) → i < length l → (entity_at l i).id ≡ e.id → ⊥) → Distinct (l ++ (e ∷ []))
distinct_more l e d n i j hi hj q = ⊎_elim (λ a. ⊎_elim (both a) (λ b. absurd (n i a (old i a ∙ q ∙ new j b hj))) (lt-or-ge j (length l))) (λ a. ⊎_elim (λ b. absurd (n j b (old j b ∙ sym q ∙ new i a hi))) (last a) (lt-or-ge j (length l))) (lt-or-ge i (length l))
  where
    old : (k : ℕ) → k < length l → (entity_at l k).id ≡ (entity_at (l ++ (e ∷ [])) k).id
    old k h = ap (λ (x : Entity). x.id) (sym (at_old no_entity l e k h))

    new : (k : ℕ) → length l ≤ k → k < length (l ++ (e ∷ [])) → (entity_at (l ++ (e ∷ [])) k).id ≡ e.id
    new k h b = ap (λ (x : Entity). x.id) (at_new no_entity l e k h b)

    both : i < length l → j < length l → i ≡ j
    both a b = d i j a b (old i a ∙ q ∙ sym (old j b))

    last : length l ≤ i → length l ≤ j → i ≡ j
    last a b = omega (arith, simp length-append at hi, simp length-append at hj)

module _ (s : List ℕ) where
  -- a step of the descriptors: the same list, or one entity more
  by-step : (P : List Entity → Type 0) (l : List Entity) (o : ℕ) → P l → (is_entity (kind_at s o) ≡ true → P (l ++ (entity_of s o ∷ []))) → P (l ++ entities_at s o)
  unfolding entities_at if_else
  by-step P l o p q = go (is_entity (kind_at s o)) refl
    where
      go : (b : Bool) → is_entity (kind_at s o) ≡ b → P (l ++ if_else b (entity_of s o ∷ []) [])
      go true e = q e
      go false e = rw append-nil p

  -- ---- what holds before the descriptor at o
  record Held (l : List Entity) (o : ℕ) : Type 0 where
    entities : (i : ℕ) → i < length l → Stands s (take i l) (entity_at l i)
    before : (i : ℕ) → i < length l → (entity_at l i).offset < o
    distinct : Distinct l
    few : length l ≤ entities_most

  module _ (l : List Entity) (o p : ℕ) (on : o < p) (f : Fine s o (used_before l (byte s o 3)) (length l)) (here : Starts s o) (h : Held l o) where
    behind : (n : ℕ) → n < o → n < p
    behind n b = omega arith

    held-entity : is_entity (kind_at s o) ≡ true → Held (l ++ (entity_of s o ∷ [])) p
    held-entity q = record {
      entities = each_more no_entity l (entity_of s o) (λ i. Stands s) h.entities new-entity;
      before = each_more no_entity l (entity_of s o) (λ i before (e : Entity). e.offset < p) (λ i b. behind _ (h.before i b)) on;
      distinct = distinct_more l (entity_of s o) h.distinct (unused l (byte s o 3) (f.fresh q));
      few = simp length-append (omega (arith, f.few q));
    }
      where
        new-entity : Stands s l (entity_of s o)
        new-entity = record { starts = here; entity = q; same = refl; shaped = f.shaped; order = h.before; nonzero = eqb-false (byte s o 3) 0 (f.nonzero q); selector-pins = selector-few (kind_at s o) s o f.pins; extension-pins = extension-few (kind_at s o) s o f.pins }

    held-other : Held l p
    held-other = record { entities = h.entities; before = λ i b. behind _ (h.before i b); distinct = h.distinct; few = h.few }

    held_after : Held (l ++ entities_at s o) p
    held_after = by-step (λ (m : List Entity). Held m p) l o held-other held-entity

  held : Clean (course s) → {l : List Entity} {o : ℕ} → Reached (course s) l o → Held l o
  held clean first = record { entities = λ i h. absurd (omega arith); before = λ i h. absurd (omega arith); distinct = λ i j h. absurd (omega arith); few = omega arith }
  held clean (next {a = l} {o = o} r h p q) =
      held_after l o (o + len_at s o) (omega arith) (fine s o (used_before l (byte s o 3)) (length l) (clean l o r h)) (record { seen = l; there = r; inside = h }) (held clean r)

  -- ---- none is left out
  -- one of the list has the offset
  abbrev HasEntity : ℕ → List Entity → Type 0
  HasEntity o l = (i : ℕ) × (i < length l) × ((entity_at l i).offset ≡ o)

  keeps-entity : (o : ℕ) (l : List Entity) (p : ℕ) → HasEntity o l → HasEntity o (l ++ entities_at s p)
  keeps-entity o l p x =
      (x.0, simp length-append (omega (arith, x.1)), rw (get_or-append l (entities_at s p) no_entity x.0 x.1) x.2)

  gains-entity : (o : ℕ) (l : List Entity) → is_entity (kind_at s o) ≡ true → HasEntity o (l ++ entities_at s o)
  unfolding entities_at if_else
  gains-entity o l q =
      rw q
      (length l, simp length-append (omega arith), ap (λ (e : Entity). e.offset) (at_new no_entity l (entity_of s o) (length l) (omega arith) (simp length-append (omega arith))))

  -- ---- the whole
  pub listed : Sound s → (l : List Entity) → Entities s l → Listed s l
  listed w l r =
      record {
        entities = whole.entities;
        each-entity = λ o d q. passes (course s) (HasEntity o) (keeps-entity o) d.seen o (gains-entity o d.seen q) d.there r d.inside;
        distinct = whole.distinct;
        few = whole.few;
        named = λ i h q b. name i h q b (find_from 0 l (source_at s (entity_at l i) q)) refl;
        no_loop = (w.sources l r).2;
      }
    where
      whole : Held l (length s)
      whole = held w.descriptors r

      name : (i : ℕ) → i < length l → (q : ℕ) → q < sources_of s (entity_at l i) → (f : Option ℕ) → find_from 0 l (source_at s (entity_at l i) q) ≡ f → Named s l (entity_at l i) q
      name i h q b None e = absurd ((w.sources l r).0 i h (q, b, e))
      name i h q b (Some j) e = record { place = j; inside = found_within l (source_at s (entity_at l i) q) j e; found = e; plain = λ k. (w.sources l r).1 i h (q, b, (j, e, k)) }

  -- what an accepted answer lists
  pub lists : {c : Control} → ControlIs s c → c.verdict ≡ accept → (l : List Entity) × Listed s l × (c.table ≡ table_of s l)
  lists {c} r v = let t = tables s r v in (t.0, listed ((accepted s c r).0 v) t.0 t.1, t.2)

  -- an entity's sources lie within its descriptor, and that within the block
  pub sources-inside : (before : List Entity) (e : Entity) → Stands s before e
      → (source_place (kind_of e.kind) + sources_of s e ≤ len_at s e.offset) × (e.offset + len_at s e.offset ≤ length s)
  sources-inside before e w =
      let k : e.kind ≡ byte s e.offset 2 = ap (λ (x : Entity). x.kind) w.same in
      let n : known_as (revision_of s) (byte s e.offset 2) ≡ byte s e.offset 2 = entity-known (revision_of s) (byte s e.offset 2) w.entity in
      (rw (k, ← n) (sources-within (kind_at s e.offset) s e.offset w.shaped), w.shaped.inside)
