use Rattle.convert.proofs.Branches.{has-kind, has-head, data-ends, data-fits, long-put, on-is}
use Rattle.std.proofs.Common.{rules}
use Rattle.convert.proofs.on.Goals as goal

pub length-n-requires : goal.length-n-requires
length-n-requires c = search has-head

pub bounds-r-0 : goal.bounds-r-0
bounds-r-0 c = search has-kind

pub slice_bounds-write-end : goal.slice_bounds-write-end
slice_bounds-write-end c = search data-ends

pub write-requires : goal.write-requires
write-requires c = (search data-fits, search rules)

pub returns : goal.returns
returns c = (search on-is, search long-put)
