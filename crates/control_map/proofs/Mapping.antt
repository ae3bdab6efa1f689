-- What finding an ID in an accepted block's table says of its controls.
use Rattle.std.specs.Prelude.{None, Option, Some}
use Rattle.rules.specs.Verdicts.{accept, refuse}
use Prim.Native.Nat.{ℕ, ◌-◌, ◌≤◌, ◌<◌}
use mathlib.Core.Path.{◌≡◌, refl, sym, ap, ◌∙◌}
use mathlib.Core.List.{List}
use mathlib.Core.Bool.{Bool, true, false}
use lib.ListN.{length, replicate, length-take}
use lib.Seq.{take_at}
use lib.Dec.{eqb}
use borrow.Author.Tests.{eqb-true, eq-eqb}
use native.Mathlib.Omega.{arith}
use Rattle.rules.specs.IfElse.{if_else}
use Rattle.rules.specs.First.{First}
use Rattle.rules.specs.Walk.{Clean}
use Rattle.rules.proofs.Padded.{pad-at}
use Rattle.entities.specs.Table.{entities_most, no_entity, no_table, entity_at, used, find_from, found_in}
use Rattle.entities.specs.declared.Entity.{Entity}
use Rattle.entities.specs.declared.Table.{Table}
use Rattle.entities.proofs.Finding.{Carries, found_first, found_within}
use Rattle.entities.proofs.Finding as finding
use Rattle.control_rules.specs.Descriptors.{Kind, header, input, output, selector, processing, extension, encoding, unknown, camera, kind_of, ControlsAt, ControlsAt.camera-terminal, ControlsAt.processing-unit}
use Rattle.control_rules.proofs.Shortest.{by_kind}
use Rattle.control.specs.Answer.{course, table_of, accepted_with, ControlIs}
use Rattle.control.specs.declared.Control.{Control}
use Rattle.control.specs.Listed.{Listed}
use Rattle.control.proofs.ExactlyWhen.{accepted, tables, zero-table}
use Rattle.control.proofs.Listed.{listed}
use Rattle.control_map.specs.Answer.{HasControls, AcceptedWith, Mapped, controls_at, refused_map, MapIs, MapIs.own, MapIs.given, MapIs.sixteen}
use Rattle.control_map.specs.Inner.{place_by, place_of, map_by}
use Rattle.control_map.specs.declared.Map.{Map}

-- ---- an accepted block has clean descriptors, and lists its entities
pub clean : (s : List ℕ) (l : List Entity) → AcceptedWith s l → Clean (course s)
clean s l a = ((accepted s (accepted_with s l) a.accepted).0 refl).descriptors

pub entities-listed : (s : List ℕ) (l : List Entity) → AcceptedWith s l → Listed s l
entities-listed s l a = listed s ((accepted s (accepted_with s l) a.accepted).0 refl) l a.entities

-- ---- the place of the control size, computed, is where it stands
pub apart : (n : ℕ) → None ≡ Some n → ⊥
apart n e = let z : ◌≡◌ {A = ℕ} 0 1 = cc in omega arith

same_place : (m n : ℕ) → Some m ≡ Some n → m ≡ n
same_place m n e = cc

pub place_is : {k : Kind} {t n : ℕ} → ControlsAt k t n → place_by k t ≡ Some n
unfolding place_by if_else
place_is (camera-terminal t e) = rw (eq-eqb t camera e)
place_is (processing-unit t) = refl

stands : (k : Kind) (t n : ℕ) → place_by k t ≡ Some n → ControlsAt k t n
unfolding place_by if_else
stands header t n e = absurd (apart n e)
stands input t n e = go (eqb t camera) refl e
  where
    go : (b : Bool) → eqb t camera ≡ b → if_else b (Some 14) None ≡ Some n → ControlsAt input t n
    go true q h = rw (← same_place 14 n h) (camera-terminal t (eqb-true t camera q))
    go false q h = absurd (apart n h)
stands output t n e = absurd (apart n e)
stands selector t n e = absurd (apart n e)
stands processing t n e = rw (← same_place 7 n e) (processing-unit t)
stands extension t n e = absurd (apart n e)
stands encoding t n e = absurd (apart n e)
stands unknown t n e = absurd (apart n e)

pub has-place : (e : Entity) (n : ℕ) → HasControls e n → place_of e ≡ Some n
has-place e n h = place_is h

pub one_place : (e : Entity) (m n : ℕ) → HasControls e m → HasControls e n → m ≡ n
one_place e m n a b = same_place m n (sym (has-place e m a) ∙ has-place e n b)

-- ---- by the place
pub by-nowhere : (s : List ℕ) (e : Entity) (p : Option ℕ) → p ≡ place_of e → p ≡ None → (r : Map) → r ≡ refused_map 16 0 → r ≡ map_by s e (place_of e)
by-nowhere s e p q h r z = z ∙ ap (map_by s e) (sym h ∙ q)

pub by-at : (s : List ℕ) (e : Entity) (p : Option ℕ) (n : ℕ) (r : Map) → p ≡ place_of e → p ≡ Some n → r ≡ controls_at s e.offset n → r ≡ map_by s e (place_of e)
by-at s e p n r q h w = w ∙ ap (map_by s e) (sym h ∙ q)

-- two mapped entities of one ID are one
pub mapped-once : (s : List ℕ) (l : List Entity) → AcceptedWith s l → (id i n j : ℕ) → Mapped l id i n → (entity_at l j).id ≡ id → j < length l → i ≡ j
mapped-once s l a id i n j m e h = (entities-listed s l a).distinct i j m.inside h (m.named ∙ sym e)

-- ---- the table that the code holds
used-of : (s : List ℕ) (t : Table) (l : List Entity) → t ≡ table_of s l → used t ≡ l
used-of s t l e = rw e (take_at l (replicate (entities_most - length l) no_entity) (length l) refl)

place-of : (s : List ℕ) (t : Table) (l : List Entity) → t ≡ table_of s l → (i : ℕ) → entity_at t.entities i ≡ entity_at l i
place-of s t l e i = rw e (pad-at entities_most no_entity l i)

pub in_table : (t : Table) (id i : ℕ) (f : Option ℕ) → length t.entities ≡ entities_most → f ≡ found_in t id → f ≡ Some i → i < entities_most
in_table t id i f z e a =
    let h : i < length (used t) = found_within (used t) id i (sym e ∙ a) in
    let k : length (used t) ≤ length t.entities = simp length-take (omega arith) in
    omega arith

module _ (s : List ℕ) (t : Table) (c : ControlIs s (record { verdict = accept; table = t })) where
  pub the-list : (l : List Entity) × AcceptedWith s l × (t ≡ table_of s l)
  the-list =
      let x = tables s c refl in
      (x.0, record { entities = x.1; accepted = rw x.2 at c }, x.2)

  all-used : used t ≡ the-list.0
  all-used = used-of s t the-list.0 the-list.2

  pub at_place : (i : ℕ) → entity_at t.entities i ≡ entity_at the-list.0 i
  at_place i = place-of s t the-list.0 the-list.2 i

  module _ (id : ℕ) (f : Option ℕ) (e : f ≡ found_in t id) where
    here : find_from 0 the-list.0 id ≡ f
    here = rw (← all-used) (sym e)

    -- nothing is found: no entity has the ID
    pub found_none : f ≡ None → (i : ℕ) → i < length the-list.0 → (entity_at the-list.0 i).id ≡ id → ⊥
    found_none n i h q =
        let l = the-list.0 in
        let w : First (Carries l id) (length l) (finding.place_of (length l) None) = rw (here, n) at (found_first l id) in
        w.before i h q

    -- found at i: the entity there has it
    pub found_at : (i : ℕ) → f ≡ Some i → (i < length the-list.0) × ((entity_at the-list.0 i).id ≡ id)
    found_at i a =
        let l = the-list.0 in
        let h : i < length l = found_within l id i (here ∙ a) in
        let w : First (Carries l id) (length l) i = rw (here, a) at (found_first l id) in
        (h, w.here h)

    pub map-nothing : (r : Map) → f ≡ None → r ≡ refused_map 16 0 → MapIs s id r
    map-nothing r n q = rw q (sixteen the-list.0 the-list.1 (λ i p m. found_none n i m.inside m.named))

    module _ (i : ℕ) (a : f ≡ Some i) where
      pub map_at : (r : Map) → r ≡ map_by s (entity_at t.entities i) (place_of (entity_at t.entities i)) → MapIs s id r
      map_at r q = rw (q, at_place i) (go (place_of x) refl)
        where
          l : List Entity
          l = the-list.0

          x : Entity
          x = entity_at l i

          w : (i < length l) × (x.id ≡ id)
          w = found_at i a

          go : (p : Option ℕ) → place_of x ≡ p → MapIs s id (map_by s x p)
          go None z =
              sixteen l the-list.1
              (λ j n m. let y : j ≡ i = mapped-once s l the-list.1 id j n i m w.1 w.0 in
              apart n (sym z ∙ has-place x n (rw y at m.has)))
          go (Some n) z = given l the-list.1 i n (record { inside = w.0; named = w.1; has = stands (kind_of x.kind) x.terminal n z })

-- ---- by the block's verdict
pub map-own : (s : List ℕ) (id : ℕ) (c : Control) → ControlIs s c → (k o : ℕ) → c.verdict ≡ refuse k o → (m : Map) → m ≡ refused_map k o → MapIs s id m
map-own s id c r k o e m q =
    let t : c.table ≡ no_table = zero-table s r k o e in
    rw q (own k o (rw (← e, ← t) r))

pub accepted-table : (s : List ℕ) (c : Control) → ControlIs s c → c.verdict ≡ accept → ControlIs s (record { verdict = accept; table = c.table })
accepted-table s c r e = rw (← e) r

-- ---- what the default of the match says
pub place-else : (t x : ℕ) → (x ≡ 2 → ⊥) → (x ≡ 5 → ⊥) → None ≡ place_by (kind_of x) t
unfolding place_by
place-else t =
    by_kind (λ x k. (x ≡ 2 → ⊥) → (x ≡ 5 → ⊥) → None ≡ place_by k t)
    (λ a b. refl) (λ a b. absurd (a refl)) (λ a b. refl) (λ a b. refl) (λ a b. absurd (b refl)) (λ a b. refl) (λ a b. refl) (λ a b. refl) (λ n l a b. refl)
