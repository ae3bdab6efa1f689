use Rattle.std.proofs.Common.{ℕ, ◌<◌, List, length, get_or, Fits, w8}
use lib.ListN.{set}
use Prim.Native.Nat.{◌+◌}
use native.Mathlib.Omega.{arith}
use mathlib.Core.Path.{◌≡◌, refl, ap}
use Rattle.le.specs.Le.{byte}
use Rattle.used_ids.specs.Marks.{marked}
use Rattle.std.specs.Prelude.{Ok}
use Rattle.rules.specs.Numbered.{first_row, kept}
use Rattle.rules.proofs.Kept.{ok-is}
use Rattle.control_rules.specs.Rules.{rows_in}
use Rattle.control_rules.specs.Descriptors.{revision_of}
use Rattle.entities.specs.declared.Table.{Table}
use Rattle.entities.specs.declared.Revision.{Revision}
use Rattle.control.proofs.Walking.{Reading, Turn, begins, rule_here, refuses, fine-here, has_sub, has-id, has-place, stays, gains, said-entity, head-sizes, few-entities, accepts, rejects}
use Rattle.control.proofs.walk.Goals as goal
use Rattle.control.proofs.walk.Goals.{then-is_entity, else-is_entity}

-- a turn of the walk, from the loop's invariant and its test
turn : (s : List ℕ) (t : Table) (m : List ℕ) (at : ℕ) → Reading s t m at → ((i : ℕ) → Fits w8 (get_or s i 0)) → at < length s → Turn s t m at
turn s t m at r f h = record { reading = r; small = omega (arith, f (at + 3)); inside = h }

-- where the descriptor breaks no rule
none : (s : List ℕ) (t : Table) (m : List ℕ) (at : ℕ) (v : Revision) (u : Unit {0}) → v ≡ revision_of s → Ok u ≡ kept (first_row (rows_in v s at (marked m (byte s at 3)) t.count)) → rule_here s t m at ≡ 0
none s t m at v u e q = ok-is u _ (rw e at q)

pub revision_of-revision-requires : goal.revision_of-revision-requires
revision_of-revision-requires c = let h = head-sizes _ c.requires in omega arith

pub loop-at-init : goal.loop-at-init
loop-at-init c = rw (c.no_table-table.ensures, c.none-marks.ensures) (begins _)

pub returns-in-Err : goal.returns-in-Err
returns-in-Err c = refuses _ c.loop-at.table _ _ (turn c.args.s.now c.loop-at.table c.loop-at.marks c.loop-at.at c.loop-at.invariant c.type_inv.s c.loop-at-test.true) _ _ c.requires
    (rw c.revision_of-revision.ensures at c.in-Err.ensures) c.refused.ensures

pub bounds-s-at : goal.bounds-s-at
bounds-s-at c = has_sub _ c.loop-at.table _ _ (turn c.args.s.now c.loop-at.table c.loop-at.marks c.loop-at.at c.loop-at.invariant c.type_inv.s c.loop-at-test.true) (none c.args.s.now c.loop-at.table c.loop-at.marks c.loop-at.at _ _ c.revision_of-revision.ensures c.in_default.ensures)

pub bounds-s-at-then-is_entity : goal.bounds-s-at-then-is_entity
bounds-s-at-then-is_entity c = has-id _ c.loop-at.table _ _ (turn c.args.s.now c.loop-at.table c.loop-at.marks c.loop-at.at c.loop-at.invariant c.type_inv.s c.loop-at-test.true) (none c.args.s.now c.loop-at.table c.loop-at.marks c.loop-at.at _ _ c.revision_of-revision.ensures c.in_default.ensures)
    (said-entity c.args.s.now c.loop-at.at _ _ _ _ c.revision_of-revision.ensures c.known_as.ensures c.is_entity.ensures c.if-is_entity.true)

pub entity_at-requires : goal.entity_at-requires
entity_at-requires c = record { at_le_most = (let h = head-sizes _ c.requires in omega arith, (fine-here _ c.loop-at.table _ _ (turn c.args.s.now c.loop-at.table c.loop-at.marks c.loop-at.at c.loop-at.invariant c.type_inv.s c.loop-at-test.true) (none c.args.s.now c.loop-at.table c.loop-at.marks c.loop-at.at _ _ c.revision_of-revision.ensures c.in_default.ensures)).shaped); at_value = (said-entity c.args.s.now c.loop-at.at _ _ _ _ c.revision_of-revision.ensures c.known_as.ensures c.is_entity.ensures c.if-is_entity.true) }

pub bounds-table-count : goal.bounds-table-count
bounds-table-count c = has-place _ c.loop-at.table _ _ (turn c.args.s.now c.loop-at.table c.loop-at.marks c.loop-at.at c.loop-at.invariant c.type_inv.s c.loop-at-test.true) (none c.args.s.now c.loop-at.table c.loop-at.marks c.loop-at.at _ _ c.revision_of-revision.ensures c.in_default.ensures)
    (said-entity c.args.s.now c.loop-at.at _ _ _ _ c.revision_of-revision.ensures c.known_as.ensures c.is_entity.ensures c.if-is_entity.true)

pub overflow_add-at-in-loop-at : goal.overflow_add-at-in-loop-at
overflow_add-at-in-loop-at c = let f = (fine-here _ c.loop-at.table _ _ (turn c.args.s.now c.loop-at.table c.loop-at.marks c.loop-at.at c.loop-at.invariant c.type_inv.s c.loop-at-test.true) (none c.args.s.now c.loop-at.table c.loop-at.marks c.loop-at.at _ _ c.revision_of-revision.ensures c.in_default.ensures)).shaped in omega arith

pub loop-at-smaller : goal.loop-at-smaller
loop-at-smaller c = let f = (fine-here _ c.loop-at.table _ _ (turn c.args.s.now c.loop-at.table c.loop-at.marks c.loop-at.at c.loop-at.invariant c.type_inv.s c.loop-at-test.true) (none c.args.s.now c.loop-at.table c.loop-at.marks c.loop-at.at _ _ c.revision_of-revision.ensures c.in_default.ensures)).shaped in omega arith

pub loop-at-preserved : goal.loop-at-preserved
loop-at-preserved c =
    let s = c.args.s.now in
    let t = c.loop-at.table in
    let m = c.loop-at.marks in
    let o = c.loop-at.at in
    let w : Turn s t m o = turn s t m o c.loop-at.invariant c.type_inv.s c.loop-at-test.true in
    let n : rule_here s t m o ≡ 0 = none s t m o _ _ c.revision_of-revision.ensures c.in_default.ensures in
    rw c.wide-at.ensures.0
    (elim c.if-is_entity.branch [
      | then-is_entity b ↦ rw (b.table-is, b.marks-is) (gains s t m o w n (said-entity s o _ _ _ _ c.revision_of-revision.ensures c.known_as.ensures c.is_entity.ensures b.if-is_entity.true) _ _ refl (ap (set t.entities t.count) b.entity_at.ensures) b.with.ensures)
      | else-is_entity b ↦ rw (b.table-is, b.marks-is) (stays s t m o w n (said-entity s o _ _ _ _ c.revision_of-revision.ensures c.known_as.ensures c.is_entity.ensures b.if-is_entity.false))
    ])

pub judge-requires : goal.judge-requires
judge-requires c = few-entities _ _ _ _ c.loop-at.invariant

pub le32-requires : goal.le32-requires
le32-requires c = let h = head-sizes _ c.requires in omega arith

pub returns-in-Ok : goal.returns-in-Ok
returns-in-Ok c = accepts _ c.loop-at.table _ _ c.loop-at.invariant c.requires (omega arith) _ c.judge.ensures _ _
    c.in-Ok.is c.le32.ensures c.revision_of-revision.ensures

pub returns-in-Err-judge : goal.returns-in-Err-judge
returns-in-Err-judge c = rejects _ c.loop-at.table _ _ c.loop-at.invariant c.requires (omega arith) _ c.judge.ensures _ _ _
    c.in-Err-judge.is c.refused-in-Err-judge.ensures
