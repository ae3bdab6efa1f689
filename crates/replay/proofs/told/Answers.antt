use native.Mathlib.Omega.{arith}
use Rattle.replay.proofs.Records.{head_small, fits-transfer, tells-transfer, tells-close, tells-nothing}
use Rattle.replay.proofs.told.Goals as goal

pub length-requires : goal.length-requires
length-requires c = (fits-transfer _ _ _ _ c.in-Transfer.is c.requires).0

pub overflow_add-to : goal.overflow_add-to
overflow_add-to c = omega (arith, c.head-from.ensures, head_small c.args.form, c.length.ensures.1)

pub slice_bounds-taken-end : goal.slice_bounds-taken-end
slice_bounds-taken-end c = omega (arith, c.head-from.ensures, c.length.ensures.0, (fits-transfer _ _ _ _ c.in-Transfer.is c.requires).1)

pub returns-in-Nothing : goal.returns-in-Nothing
returns-in-Nothing c = tells-nothing c.args.form c.args.before c.args.r.now _ c.in-Nothing.is

pub returns-in-Transfer : goal.returns-in-Transfer
returns-in-Transfer c = tells-transfer c.args.form c.args.before c.args.r.now _ _ _ _ _ c.in-Transfer.is c.head-from.ensures c.length.ensures.0
    c.taken.ensures

pub returns-in-Close : goal.returns-in-Close
returns-in-Close c = tells-close c.args.form c.args.before c.args.r.now _ _ _ c.in-Close.is c.closed.ensures
