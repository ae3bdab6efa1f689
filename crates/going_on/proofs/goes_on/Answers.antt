use Rattle.std.proofs.Common.{ap, not}
use native.Mathlib.Omega.{arith}
use Rattle.going_on.specs.Bytes.{bytes_go_on}
use Rattle.going_on.proofs.Checks.{asks, faulted, unmarked, said-marked, overfilled, no_room, by-stamp}
use Rattle.going_on.proofs.goes_on.Goals as goal

pub returns-then-not-is_old : goal.returns-then-not-is_old
unfolding bytes_go_on
returns-then-not-is_old c = search asks depth 12

pub returns-then-is_some : goal.returns-then-is_some
returns-then-is_some c = faulted _ _ _ _ _ c.is_old.ensures (ap not c.if-not-is_old.false) c.is_some.ensures c.if-is_some.true

pub returns-then-not-is_marked : goal.returns-then-not-is_marked
returns-then-not-is_marked c = unmarked _ _ _ _ _ c.is_old.ensures (ap not c.if-not-is_old.false) c.is_some.ensures c.if-is_some.false _
    c.is_marked.ensures (ap not c.if-not-is_marked.true)

pub bounds-t-0 : goal.bounds-t-0
bounds-t-0 c = let h = said-marked _ _ _ _ _ c.is_marked.ensures (ap not c.if-not-is_marked.false) in omega (arith, h.two)

pub overflow_sub-n : goal.overflow_sub-n
overflow_sub-n c = let h = said-marked _ _ _ _ _ c.is_marked.ensures (ap not c.if-not-is_marked.false) in omega (arith, h.inside)

pub returns-then-o-r : goal.returns-then-o-r
returns-then-o-r c = overfilled _ _ _ _ _ _ c.is_old.ensures (ap not c.if-not-is_old.false) c.is_some.ensures c.if-is_some.false
    c.is_marked.ensures (ap not c.if-not-is_marked.false) c.if-o-r.true

pub returns-then-o-r-2 : goal.returns-then-o-r-2
returns-then-o-r-2 c = no_room _ _ _ _ _ _ c.is_old.ensures (ap not c.if-not-is_old.false) c.is_some.ensures c.if-is_some.false
    c.is_marked.ensures (ap not c.if-not-is_marked.false) _ c.wide.ensures.0 c.if-o-r.false c.if-o-r-2.true

pub bounds-t-1 : goal.bounds-t-1
bounds-t-1 c = let h = said-marked _ _ _ _ _ c.is_marked.ensures (ap not c.if-not-is_marked.false) in omega (arith, h.two)

pub overflow_cast-t : goal.overflow_cast-t
overflow_cast-t c = omega (arith, c.type_inv.t 1)

pub agrees-requires : goal.agrees-requires
agrees-requires c = let h = said-marked _ _ _ _ _ c.is_marked.ensures (ap not c.if-not-is_marked.false) in omega (arith, h.holds, h.inside)

pub returns : goal.returns
returns c = by-stamp _ _ _ _ _ _ c.is_old.ensures (ap not c.if-not-is_old.false) c.is_some.ensures c.if-is_some.false
    c.is_marked.ensures (ap not c.if-not-is_marked.false) _ c.wide.ensures.0 c.if-o-r.false c.if-o-r-2.false _ c.agrees.ensures
