-- An accepted block has one revision, and shows what that says.
use Rattle.rules.specs.Verdicts.{accept, refuse}
use Prim.Native.Nat.{ℕ, ◌+◌, ◌<◌}
use mathlib.Core.Path.{◌≡◌, refl, sym, ap, ◌∙◌}
use mathlib.Core.List.{List, []}
use mathlib.Core.Bool.{Bool, true, false, ◌||◌}
use mathlib.Core.Logic.{◌⊎◌, inl, inr, ⊎_elim}
use lib.ListN.{length, get_or, take}
use lib.Dec.{eqb}
use borrow.Author.Tests.{eqb-true, not-false}
use native.Mathlib.Omega.{arith}
use native.Mathlib.Decide.{ℕ_discrete}
use Rattle.le.specs.Le.{byte, le16_at}
use Rattle.rules.specs.IfElse.{if_else}
use Rattle.rules.specs.Numbered.{NoneOf}
use Rattle.rules.specs.Walk.{Reached.first}
use Rattle.rules.proofs.Rows.{and_second}
use Rattle.rules.proofs.Padded.{pad-at}
use Rattle.blocks.specs.Blocks.{whole_rows}
use Rattle.entities.specs.Revisions.{says_of}
use Rattle.entities.specs.Table.{entities_most, input_terminal, processing_unit, no_entity, entity_at}
use Rattle.entities.specs.declared.Entity.{Entity}
use Rattle.entities.specs.declared.Table.{Table}
use Rattle.entities.specs.declared.Revision.{Revision}
use Rattle.entities.specs.declared.Revision.TheVariants.{R10, R11, R15}
use Rattle.control_rules.specs.Descriptors.{Kind, header, input, processing, camera, revision_by, revision_of, known_as, kind_of, kind_at, terminal_of, ControlsAt}
use Rattle.control_rules.specs.Descriptors as descriptors
use Rattle.control_rules.specs.Rules.{head_rows, is_revision, revision_right, kind_rows, rows_in}
use Rattle.control_rules.proofs.Subtypes.{entity-known}
use Rattle.control_rules.proofs.Within.{Sized, unit-sized, camera-sized}
use Rattle.control.specs.Answer.{ControlIs, table_of}
use Rattle.control.specs.Broken.{Sound}
use Rattle.control.specs.Listed.{Stands}
use Rattle.control.specs.declared.Control.{Control}
use Rattle.control.proofs.Unique.{read-unique}
use Rattle.control.proofs.ExactlyWhen.{accepted}
use Rattle.control.proofs.Walking.{head-sizes}
use Rattle.control.proofs.Listed.{lists}
use Rattle.control_map.specs.Answer.{MapIs, controls_at, MappedAt}
use Rattle.control_map.specs.declared.Map.{Map}
use Rattle.control_map.proofs.Mapping.{entities-listed}
use Rattle.control_map.proofs.ExactlyWhen.{only-these, bytes-given}
use Rattle.probe.specs.Fields.{no_fields}
use Rattle.probe.proofs.Tests.{read_whole, read-wrong, write-short, write-whole}
use Rattle.probe.proofs.Late.{fields-kept}
use Rattle.probe_check.proofs.Checking.{check-41}
use Rattle.probe_check.proofs.ExactlyWhen.{says-yes}
use Rattle.revisions.specs.Own.{bcd_of, SizedBy, EntityBy, InTable, MapBy, MapBy.of-camera, MapBy.of-unit, Shows}

-- ---- the revision
bcd-is : (x : ℕ) → is_revision x ≡ true → x ≡ bcd_of (revision_by x)
unfolding is_revision revision_by if_else
bcd-is x h = go (eqb x 0x0100) refl (eqb x 0x0110) refl h
  where
    go : (a : Bool) → eqb x 0x0100 ≡ a → (b : Bool) → eqb x 0x0110 ≡ b → (a || (b || eqb x 0x0150)) ≡ true → x ≡ bcd_of (if_else a R10 (if_else b R11 R15))
    go true p b q i = eqb-true x 0x0100 p
    go false p true q i = eqb-true x 0x0110 q
    go false p false q i = eqb-true x 0x0150 i

-- no two have the same number
pub one-revision : (v w : Revision) → bcd_of v ≡ bcd_of w → v ≡ w
one-revision R10 R10 e = refl
one-revision R10 R11 e = absurd (omega arith)
one-revision R10 R15 e = absurd (omega arith)
one-revision R11 R10 e = absurd (omega arith)
one-revision R11 R11 e = refl
one-revision R11 R15 e = absurd (omega arith)
one-revision R15 R10 e = absurd (omega arith)
one-revision R15 R11 e = absurd (omega arith)
one-revision R15 R15 e = refl

header-first : (s : List ℕ) → NoneOf (head_rows s) → get_or s 2 0 ≡ 1
unfolding whole_rows
header-first s n = eqb-true (get_or s 2 0) 1 (and_second (eqb (get_or s 1 0) 0x24) (eqb (get_or s 2 0) 1) (not-false _ n.1.1.0))

header-kind : (v : Revision) (x : ℕ) → x ≡ 1 → kind_of (known_as v x) ≡ header
unfolding kind_of known_as if_else
header-kind v x e = rw e

known-revision : (s : List ℕ) → Sound s → is_revision (le16_at s 3) ≡ true
unfolding rows_in kind_rows revision_right
known-revision s w =
    let z = head-sizes s w.block in
    let d = w.descriptors [] 0 first (omega (arith, z.0)) in
    let k : kind_at s 0 ≡ header = header-kind (revision_of s) (byte s 0 2) (header-first s w.block) in
    rw k at (not-false (revision_right (kind_at s 0) s 0) d.1.1.1.0)

-- ---- an entity
known-seven : (v : Revision) → known_as v 7 ≡ 7 → (says_of v).encoding ≡ true
unfolding known_as says_of if_else
known-seven R10 e = absurd (omega arith)
known-seven R11 e = absurd (omega arith)
known-seven R15 e = refl

sized-by : (v : Revision) (s : List ℕ) (o base k : ℕ) → Sized v s o base k → SizedBy v s o base k
sized-by v s o base k z = record { long = z.long; least = z.least; most = z.most }

module _ (s : List ℕ) (before : List Entity) (e : Entity) (w : Stands s before e) where
  kind-is : e.kind ≡ byte s e.offset 2
  kind-is = ap (λ (x : Entity). x.kind) w.same

  known_is : known_as (revision_of s) (byte s e.offset 2) ≡ byte s e.offset 2
  known_is = entity-known (revision_of s) (byte s e.offset 2) w.entity

  by_kind : (n : ℕ) → e.kind ≡ n → kind_at s e.offset ≡ kind_of n
  by_kind n h = ap kind_of (known_is ∙ (sym kind-is ∙ h))

  seven : e.kind ≡ 7 → (says_of (revision_of s)).encoding ≡ true
  seven h =
      let b : byte s e.offset 2 ≡ 7 = sym kind-is ∙ h in
      known-seven (revision_of s) (rw b at known_is)

  camera-by : e.kind ≡ 2 → e.terminal ≡ camera → SizedBy (revision_of s) s e.offset (says_of (revision_of s)).camera 14
  unfolding kind_of terminal_of
  camera-by h t =
      let k : kind_at s e.offset ≡ input = by_kind 2 h in
      let x : e.terminal ≡ terminal_of (kind_at s e.offset) s e.offset = ap (λ (x : Entity). x.terminal) w.same in
      let y : e.terminal ≡ le16_at s (e.offset + 4) = x ∙ ap (λ (q : Kind). terminal_of q s e.offset) k in
      sized-by (revision_of s) s e.offset (says_of (revision_of s)).camera 14 (camera-sized s e.offset (rw k at w.shaped) (sym y ∙ t))

  unit-by : e.kind ≡ 5 → SizedBy (revision_of s) s e.offset (says_of (revision_of s)).unit 7
  unfolding kind_of
  unit-by h =
      let k : kind_at s e.offset ≡ processing = by_kind 5 h in
      sized-by (revision_of s) s e.offset (says_of (revision_of s)).unit 7 (unit-sized s e.offset (rw k at w.shaped))

  entity-by : EntityBy (revision_of s) s e
  entity-by = record { read = w.same; kind = w.entity; shaped = w.shaped.right; encoding = seven; camera-terminal = camera-by; processing-unit = unit-by }

-- ---- the table
place-of : (s : List ℕ) (t : Table) (l : List Entity) → t ≡ table_of s l → (i : ℕ) → entity_at t.entities i ≡ entity_at l i
place-of s t l e i = rw e (pad-at entities_most no_entity l i)

count_of : (s : List ℕ) (t : Table) (l : List Entity) → t ≡ table_of s l → t.count ≡ length l
count_of s t l e = rw e

-- ---- a map
-- what has controls is a camera or a processing unit
controls-kind : (x : ℕ) (t n : ℕ) → ControlsAt (kind_of x) t n → ((x ≡ input_terminal) × (t ≡ camera) × (n ≡ 14)) ⊎ ((x ≡ processing_unit) × (n ≡ 7))
unfolding kind_of
controls-kind x t n h = go (ℕ_discrete x input_terminal) (ℕ_discrete x processing_unit)
  where
    by-camera : {u m : ℕ} → ControlsAt input u m → (u ≡ camera) × (m ≡ 14)
    by-camera (descriptors.ControlsAt.camera-terminal u e) = (e, refl)

    by-unit : {u m : ℕ} → ControlsAt processing u m → m ≡ 7
    by-unit (descriptors.ControlsAt.processing-unit u) = refl

    go : Dec (x ≡ input_terminal) → Dec (x ≡ processing_unit) → ((x ≡ input_terminal) × (t ≡ camera) × (n ≡ 14)) ⊎ ((x ≡ processing_unit) × (n ≡ 7))
    go (yes e) d = (let k = by-camera (rw e at h) in inl (e, k.0, k.1))
    go (no a) (yes e) = inr (e, by-unit (rw e at h))
    go (no a) (no b) = absurd (only-these t x a b n h)

map-by : (s : List ℕ) (c : Control) → ControlIs s c → (id : ℕ) (m : Map) → MapIs s id m → m.verdict ≡ accept → MapBy (revision_of s) s c.table id m
map-by s c r id m q a = rw u.bytes (⊎_elim camera-map unit-map (controls-kind e.kind e.terminal u.place u.mapped.has))
  where
    u : MappedAt s id m
    u = (bytes-given s id m q).0 a

    e : Entity
    e = entity_at u.seen u.entity

    the-table : c.table ≡ table_of s u.seen
    the-table = ap (λ (x : Control). x.table) (read-unique s r u.with.accepted)

    there : InTable c.table id e
    there = record { place = u.entity; used = rw (count_of s c.table u.seen the-table) u.mapped.inside; same = place-of s c.table u.seen the-table u.entity; named = u.mapped.named }

    w : Stands s (take u.entity u.seen) e
    w = (entities-listed s u.seen u.with).entities u.entity u.mapped.inside

    camera-map : (e.kind ≡ input_terminal) × (e.terminal ≡ camera) × (u.place ≡ 14) → MapBy (revision_of s) s c.table id (controls_at s e.offset u.place)
    camera-map k = rw k.2 (of-camera e there k.0 k.1 (camera-by s _ e w k.0 k.1))

    unit-map : (e.kind ≡ processing_unit) × (u.place ≡ 7) → MapBy (revision_of s) s c.table id (controls_at s e.offset u.place)
    unit-map k = rw k.1 (of-unit e there k.0 (unit-by s _ e w k.0))

-- ---- the whole
module _ (s : List ℕ) (c : Control) (r : ControlIs s c) (a : c.verdict ≡ accept) where
  sound : Sound s
  sound = (accepted s c r).0 a

  table_is : (l : List Entity) → c.table ≡ table_of s l → c.table.revision ≡ revision_of s
  table_is l e = rw e

  entities-by : (i : ℕ) → i < c.table.count → EntityBy (revision_of s) s (entity_at c.table.entities i)
  entities-by i h =
      let t = lists s r a in
      let n : c.table.count ≡ length t.0 = count_of s c.table t.0 t.2 in
      let b : i < length t.0 = omega arith in
      rw (place-of s c.table t.0 t.2 i) (entity-by s _ (entity_at t.0 i) (t.1.entities i b))

  -- WHAT AN ACCEPTED BLOCK SHOWS IS WHAT ITS OWN REVISION SAYS
  pub shows : (v : Revision) × Shows v s c
  shows =
      let t = lists s r a in
      let z : c.table.revision ≡ revision_of s = table_is t.0 t.2 in
      let size : (says_of (revision_of s)).probe ≡ (says_of c.table.revision).probe = ap (λ (v : Revision). (says_of v).probe) (sym z) in (
        revision_of s,
        record {
          bytes = bcd-is (le16_at s 3) (known-revision s sound);
          table = z;
          entities = entities-by;
          map = map-by s c r;
          probe-read = λ p e. let k : length p ≡ (says_of c.table.revision).probe = e ∙ size in sym (read_whole c.table.revision p _ k (sym (fields-kept (revision_of s) p e)));
          probe-unread = λ p n. sym (read-wrong c.table.revision p no_fields (λ e. n (e ∙ sym size)) refl);
          probe-written = λ p room h. let k = write-whole c.table.revision p room _ (rw (← size) h) refl in (sym k.0, rw size (sym k.1));
          probe-unwritten = λ p room h. let k = write-short c.table.revision p room (rw (← size) h) in (sym k.0, sym k.1);
          probe-long = λ b p h. ((says-yes c.table b p).0 h).read.whole ∙ ap (λ (v : Revision). (says_of v).probe) z;
          probe-41 = λ b p n. sym (check-41 c.table b p (refuse 41 0) (λ e. n (e ∙ ap (λ (v : Revision). (says_of v).probe) z)) refl);
        },
      )

  -- and it has no other
  pub shows-one : (v w : Revision) → Shows v s c → Shows w s c → v ≡ w
  shows-one v w p q = sym p.table ∙ q.table
