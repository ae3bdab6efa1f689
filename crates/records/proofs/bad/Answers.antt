use native.Mathlib.Omega.{arith}
use Rattle.records.proofs.Branches.{bad-size, bad_kind, bad-second, bad-length, bad-transfer, bad-filled, bad-empty, reads-kind, reads-head, reads-fill, head_few}
use Rattle.records.proofs.bad.Goals as goal

pub returns-then-r-size : goal.returns-then-r-size
returns-then-r-size c = search bad-size

pub bounds-r-0 : goal.bounds-r-0
bounds-r-0 c = search reads-kind

pub returns-then-kind-gt2 : goal.returns-then-kind-gt2
returns-then-kind-gt2 c = search bad_kind

pub second-requires : goal.second-requires
second-requires c = search reads-head

pub returns-then-second : goal.returns-then-second
returns-then-second c = search bad-second

pub length-n-requires : goal.length-n-requires
length-n-requires c = search reads-head

pub returns-then-most-n : goal.returns-then-most-n
returns-then-most-n c = search bad-length

pub overflow_add-head : goal.overflow_add-head
overflow_add-head c = omega (arith, head_few c.args.form)

pub any_set-requires : goal.any_set-requires
any_set-requires c = search reads-fill

pub returns-then-kind-eq0 : goal.returns-then-kind-eq0
returns-then-kind-eq0 c = search bad-transfer

pub returns-then-n-ne0 : goal.returns-then-n-ne0
returns-then-n-ne0 c = search bad-filled

pub overflow_add-head-2 : goal.overflow_add-head-2
overflow_add-head-2 c = omega (arith, head_few c.args.form)

pub any_set-requires-2 : goal.any_set-requires-2
any_set-requires-2 c = search reads-fill

pub returns : goal.returns
returns c = search bad-empty
