-- What the tests of the rule functions say of the rules, in the order of the code.
use Prim.Native.Nat.{ℕ, ◌+◌, ◌≤◌, ◌<◌}
use mathlib.Core.Path.{◌≡◌, refl, sym, ◌∙◌}
use mathlib.Core.List.{List}
use mathlib.Core.Bool.{Bool, true, false, not, ◌&&◌, true≢false}
use lib.ListN.{length}
use borrow.Author.Tests.{not-true, not-false}
use Rattle.std.specs.Prelude.{Ok}
use Rattle.rules.specs.Numbered.{first_row, kept}
use Rattle.blocks.specs.Blocks.{length_broken}
use Rattle.blocks.proofs.Right.{said-placed}
use Rattle.entities.specs.declared.Revision.{Revision}
use Rattle.control_rules.specs.Descriptors.{Kind, header, input, output, selector, processing, extension, encoding, unknown, len_at, revision_of, shape, is_entity, Shaped}
use Rattle.control_rules.specs.Rules.{pins_right, entity_rows}
use Rattle.control_rules.proofs.Shortest.{id-room}

-- a kind that is no entity has no pins
pins-none : (k : Kind) (s : List ℕ) (o : ℕ) → is_entity k ≡ false → pins_right k s o ≡ true
unfolding is_entity pins_right
pins-none header s o h = refl
pins-none input s o h = refl
pins-none output s o h = refl
pins-none selector s o h = absurd (true≢false h)
pins-none processing s o h = refl
pins-none extension s o h = absurd (true≢false h)
pins-none encoding s o h = refl
pins-none unknown s o h = refl

pub entity-room : (k : Kind) (s : List ℕ) (o : ℕ) (e : Bool) → e ≡ is_entity k → not e ≡ false → Shaped k s o → o + 3 < length s
entity-room k s o e h i p = id-room k s o p (sym h ∙ not-false e i)

-- 9 to 12 of what is no entity
pub no-entity : (k : Kind) (s : List ℕ) (o : ℕ) (u : Bool) (n : ℕ) (e : Bool) → e ≡ is_entity k → not e ≡ true → Ok tt ≡ kept (first_row (entity_rows k s o u n))
unfolding entity_rows
no-entity k s o u n e h i = let f : is_entity k ≡ false = sym h ∙ not-true e i in rw (f, pins-none k s o f)

-- a rule of entities alone
pub and_is : (k : Kind) (e b v : Bool) → e ≡ is_entity k → not e ≡ false → b ≡ v → (is_entity k && b) ≡ v
and_is k e b v h i p = rw (← h, not-false e i) p

pub shaped : (v : Revision) (k : Kind) (s : List ℕ) (o : ℕ) (q : Bool) → v ≡ revision_of s → 3 ≤ len_at s o → o + len_at s o ≤ length s → q ≡ shape v k s o → not q ≡ false → Shaped k s o
shaped v k s o q z l i f g = record { long = l; inside = i; right = (rw z at (sym f)) ∙ not-false q g }

pub len-in : (s : List ℕ) (o len : ℕ) → len ≡ len_at s o → o + len_at s o ≤ length s → o + len ≤ length s
len-in s o len e h = rw e h

pub placed-long : (s : List ℕ) (o : ℕ) (b : Bool) → b ≡ length_broken s o → b ≡ false → 3 ≤ len_at s o
placed-long s o b e h = (said-placed s o b e h).long

pub placed-inside : (s : List ℕ) (o : ℕ) (b : Bool) → b ≡ length_broken s o → b ≡ false → o + len_at s o ≤ length s
placed-inside s o b e h = (said-placed s o b e h).inside
