-- A block's own refusal lies within the block.
use Rattle.rules.specs.Verdicts.{refuse}
use Prim.Native.Nat.{ℕ, ◌+◌, ◌≤◌, ◌<◌}
use mathlib.Core.Path.{◌≡◌, refl}
use mathlib.Core.List.{List, [], ◌∷◌, ◌++◌, append-nil}
use mathlib.Core.Bool.{Bool, true, false}
use lib.ListN.{length, get_or}
use native.Mathlib.Omega.{arith}
use Rattle.rules.specs.IfElse.{if_else}
use Rattle.rules.specs.Walk.{Reached, first, next}
use Rattle.rules.proofs.Growing.{each_more}
use Rattle.entities.specs.Table.{no_entity, entity_at}
use Rattle.entities.specs.declared.Entity.{Entity}
use Rattle.entities.specs.declared.Table.{Table}
use Rattle.control_rules.specs.Descriptors as control-rules
use Rattle.control_rules.specs.Rules.{entity_of, entities_at}
use Rattle.control.specs.Answer as control
use Rattle.control.specs.Broken as control-broken
use Rattle.control.specs.declared.Control.{Control}
use Rattle.control.proofs.ExactlyWhen as control-exactly
use Rattle.streaming_descriptors.specs.Descriptors as streaming-rules
use Rattle.streaming_descriptors.specs.declared.Format.{Format}
use Rattle.streaming.specs.Answer as streaming
use Rattle.streaming.specs.Inner.{streaming_of}
use Rattle.streaming.specs.Broken as streaming-broken
use Rattle.streaming.proofs.ExactlyWhen as streaming-exactly

-- elements that stand before o, and one more at o, stand before a later place
module _ {A : Type 0} (d : A) (off : A → ℕ) (l : List A) (o p : ℕ) (on : o < p) (h : (i : ℕ) → i < length l → off (get_or l i d) < o) (x : A) (e : off x ≡ o) where
  more : (t : Bool) → (i : ℕ) → i < length (l ++ if_else t (x ∷ []) []) → off (get_or (l ++ if_else t (x ∷ []) []) i d) < p
  unfolding if_else
  more true = each_more d l x (λ i before (y : A). off y < p) (λ i k. omega (arith, h i k)) (omega (arith, e))
  more false = rw append-nil (λ i k. omega (arith, h i k))

-- ---- the control block
module _ (b : List ℕ) where
  entities-before : {l : List Entity} {o : ℕ} → Reached (control.course b) l o → (i : ℕ) → i < length l → (entity_at l i).offset < o
  unfolding entities_at
  entities-before first = λ i h. absurd (omega arith)
  entities-before (next {a = l} {o = o} r h p q) =
      more no_entity (λ (e : Entity). e.offset) l o (o + control-rules.len_at b o) (omega arith) (entities-before r) (entity_of b o) refl (control-rules.is_entity (control-rules.kind_at b o))

  first-within : {k o : ℕ} → control-broken.FirstBroken b k o → o ≤ length b
  first-within (control-broken.by-block k g) = omega arith
  first-within (control-broken.by-descriptor k o z f) = omega (arith, f.inside)
  first-within (control-broken.by-13 l o z h r e) = omega (arith, entities-before r e.place e.inside, e.at)
  first-within (control-broken.by-14 l o z h r a e) = omega (arith, entities-before r e.place e.inside, e.at)
  first-within (control-broken.by-15 l o z h r a c e) = omega (arith, entities-before r e.place e.inside, e.at)

  pub control-within : (c : Control) → control.ControlIs b c → (k o : ℕ) → c.verdict ≡ refuse k o → o ≤ length b
  control-within c r k o e = first-within ((control-exactly.refused b c r k o).0 e)

-- ---- a streaming block
module _ (t : Table) (b : List ℕ) where
  formats-before : {a : streaming.Seen} {o : ℕ} → Reached (streaming-broken.block_course t b) a o → (i : ℕ) → i < length a.formats → (streaming-broken.format_in a i).offset < o
  unfolding streaming.after streaming-rules.format_at
  formats-before first = λ i h. absurd (omega arith)
  formats-before (next {a = a} {o = o} r h p q) =
      let f = streaming-rules.format_of (streaming-rules.kind_at b o) in
      more streaming-rules.no_format (λ (e : Format). e.offset) a.formats o (o + streaming-rules.len_at b o) (omega arith) (formats-before r) (streaming-rules.format_at f b o) refl (streaming-rules.is_format (streaming-rules.kind_at b o))

  broken-within : {k o : ℕ} → streaming-broken.FirstBroken t b k o → o ≤ length b
  broken-within (streaming-broken.by-block k g) = omega arith
  broken-within (streaming-broken.by-descriptor k o z f) = omega (arith, f.inside)
  broken-within (streaming-broken.by-36 a w i l f) = omega (arith, formats-before w.there i l)
  broken-within (streaming-broken.by-37 a w c i l f) = omega (arith, formats-before w.there i l)
  broken-within (streaming-broken.by-38 a w c d e) = omega arith

  pub streaming-within : (k o : ℕ) → (streaming_of t b).verdict ≡ refuse k o → o ≤ length b
  streaming-within k o e = broken-within ((streaming-exactly.refused t b k o).0 e)
