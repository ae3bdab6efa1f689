-- 30: what the search in the table says of the link.
use Rattle.std.specs.Prelude.{None, Option, Some}
use Prim.Native.Nat.{ℕ, ◌<◌}
use mathlib.Core.Path.{◌≡◌, refl, sym, ◌∙◌}
use mathlib.Core.Bool.{Bool, true, false, true≢false}
use lib.ListN.{length, length-take}
use lib.Seq.{get_or-take}
use lib.Dec.{eqb}
use borrow.Author.Tests.{eq-eqb, eqb-true}
use native.Mathlib.Omega.{arith}
use Rattle.rules.proofs.Rows.{and_first, and_second}
use Rattle.entities.specs.Table.{entity_at, used, found_in}
use Rattle.entities.specs.declared.Entity.{Entity}
use Rattle.entities.specs.declared.Table.{Table}
use Rattle.entities.proofs.Finding.{found_within, found_first}
use Rattle.streaming.specs.Answer.{is_output, linked_at, linked_to}
use Rattle.streaming.specs.Listed.{Linked}

pub output-is : (e : Entity) → e.kind ≡ 3 → eqb e.terminal 0x0101 ≡ is_output e
unfolding is_output
output-is e h = rw (eq-eqb e.kind 3 h)

-- and where it says yes
output-kind : (e : Entity) → is_output e ≡ true → (e.kind ≡ 3) × (e.terminal ≡ 0x0101)
unfolding is_output
output-kind e h = (eqb-true e.kind 3 (and_first _ _ h), eqb-true e.terminal 0x0101 (and_second (eqb e.kind 3) _ h))

-- what is found lies in the table
pub found_inside : (t : Table) (id i n : ℕ) (f : Option ℕ) → length t.entities ≡ n → f ≡ found_in t id → f ≡ Some i → i < n
found_inside t id i n f e g h = omega (arith, found_within (used t) id i (sym g ∙ h), length-take t.count t.entities)

pub linked-none : (t : Table) (id : ℕ) (f : Option ℕ) → f ≡ found_in t id → f ≡ None → false ≡ linked_to t id
unfolding linked_at
linked-none t id f e h = rw (← e, h)

pub linked-at : (t : Table) (id i : ℕ) (f : Option ℕ) (r : Bool) → f ≡ found_in t id → f ≡ Some i → r ≡ is_output (entity_at t.entities i) → r ≡ linked_to t id
unfolding linked_at
linked-at t id i f r e h g = rw (← e, h) g

-- 30 in words
pub link-right : (t : Table) (id : ℕ) → linked_to t id ≡ true → Linked t id
unfolding linked_at
link-right t id h = go (found_in t id) refl h
  where
    go : (f : Option ℕ) → found_in t id ≡ f → linked_at t f ≡ true → Linked t id
    go None e l = absurd (true≢false (sym l))
    go (Some i) e l =
        let b : i < length (used t) = found_within (used t) id i e in
        let c : i < t.count = omega (arith, length-take t.count t.entities) in
        let same : entity_at (used t) i ≡ entity_at t.entities i = rw get_or-take in
        let o = output-kind (entity_at t.entities i) l in
        record { place = i; inside = b; first = rw e at (found_first (used t) id); output = rw same o.0; terminal = rw same o.1 }
