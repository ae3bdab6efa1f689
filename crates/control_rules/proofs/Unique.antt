-- Each promise leaves one answer: it says which.
use Prim.Native.Nat.{ℕ}
use mathlib.Core.Path.{◌≡◌, sym, ◌∙◌}
use mathlib.Core.List.{List}
use mathlib.Core.Bool.{Bool}
use Rattle.std.specs.Prelude.{Result}
use Rattle.rules.specs.Numbered.{first_row, kept}
use Rattle.entities.specs.declared.Entity.{Entity}
use Rattle.entities.specs.declared.Revision.{Revision}
use Rattle.control_rules.specs.Descriptors.{revision_of, known_as, kind_of, is_entity}
use Rattle.control_rules.specs.Rules.{head_rows, rows_in, entity_of}

pub head-rule-unique : (s : List ℕ) (a b : Result (Unit {0}) ℕ) → a ≡ kept (first_row (head_rows s)) → b ≡ kept (first_row (head_rows s)) → a ≡ b
head-rule-unique s a b p q = p ∙ sym q

pub rule-at-unique : (v : Revision) (s : List ℕ) (o n : ℕ) (u : Bool) (a b : Result (Unit {0}) ℕ) → a ≡ kept (first_row (rows_in v s o u n)) → b ≡ kept (first_row (rows_in v s o u n)) → a ≡ b
rule-at-unique v s o n u a b p q = p ∙ sym q

pub entity-at-unique : (s : List ℕ) (o : ℕ) (a b : Entity) → a ≡ entity_of s o → b ≡ entity_of s o → a ≡ b
entity-at-unique s o a b p q = p ∙ sym q

pub is-entity-unique : (x : ℕ) (a b : Bool) → a ≡ is_entity (kind_of x) → b ≡ is_entity (kind_of x) → a ≡ b
is-entity-unique x a b p q = p ∙ sym q

pub revision-of-unique : (s : List ℕ) (a b : Revision) → a ≡ revision_of s → b ≡ revision_of s → a ≡ b
revision-of-unique s a b p q = p ∙ sym q

pub known-as-unique : (v : Revision) (x a b : ℕ) → a ≡ known_as v x → b ≡ known_as v x → a ≡ b
known-as-unique v x a b p q = p ∙ sym q
