use Prim.Native.Nat.{◌+◌, ◌-◌}
use Rattle.trace.proofs.Branches.{call-transfer, call-lost, call-close}
use Rattle.session.specs.Inner.{whole_of}
use Rattle.records.proofs.Branches.{size-least, head_few, head-most}
use native.Mathlib.Omega.{arith}
use borrow.Author.Rules.{rules}
use Rattle.trace.proofs.call.Goals as goal

pub bounds-r-0 : goal.bounds-r-0
bounds-r-0 c = omega (arith, c.requires.0, size-least c.args.form)

pub length-requires : goal.length-requires
length-requires c = omega (arith, c.requires.0, size-least c.args.form)

pub overflow_add-to : goal.overflow_add-to
overflow_add-to c = omega (arith, head_few c.args.form)

pub slice_bounds-transfer-end : goal.slice_bounds-transfer-end
slice_bounds-transfer-end c = omega (arith, c.requires.0, c.requires.1, head-most c.args.form, c.length.ensures.0, c.head-from.ensures)

pub returns-in-0 : goal.returns-in-0
returns-in-0 c =
    let h = c.head-from.result in
    let n = c.length.result in
    let both = call-transfer c.args.form (whole_of c.args.s c.args.m.now) c.args.r.now h n (h + n - h) _ _ c.in-0.is c.head-from.ensures c.length.ensures.0 (omega arith) (c.transfer.ensures.m_after, c.transfer.ensures.said_value) in record { m_after = both.0; said_value = both.1 }

pub returns-in-1 : goal.returns-in-1
returns-in-1 c = let both = call-lost c.args.form (whole_of c.args.s c.args.m.now) c.args.r.now _ _ c.in-1.is (c.lost.ensures.m_after, c.lost.ensures.said_value) in record { m_after = both.0; said_value = both.1 }

pub returns-in_default : goal.returns-in_default
returns-in_default c = let both = call-close c.args.form (whole_of c.args.s c.args.m.now) c.args.r.now _ _ (search rules) (search rules) (c.close.ensures.m_after, c.close.ensures.said_value) in record { m_after = both.0; said_value = both.1 }
