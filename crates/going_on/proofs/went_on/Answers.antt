use native.Mathlib.Omega.{arith}
use Rattle.session_rules.specs.Layouts.{header_layout}
use Rattle.session_rules.specs.Transfer.{stamp_of}
use Rattle.going_on.proofs.Bytes.{asked}
use Rattle.going_on.proofs.went_on.Goals as goal

pub bounds-t-0 : goal.bounds-t-0
bounds-t-0 c = let h = (asked _ _ _ c.requires.0).header in omega (arith, h.two)

pub overflow_sub-n : goal.overflow_sub-n
overflow_sub-n c = let h = (asked _ _ _ c.requires.0).header in omega (arith, h.inside)

pub bounds-t-1 : goal.bounds-t-1
bounds-t-1 c = let h = (asked _ _ _ c.requires.0).header in omega (arith, h.two)

pub overflow_cast-t : goal.overflow_cast-t
overflow_cast-t c = omega (arith, c.type_inv.t 1)

pub first_stamp-stamp-requires : goal.first_stamp-stamp-requires
first_stamp-stamp-requires c = let h = (asked _ _ _ c.requires.0).header in omega (arith, h.holds, h.inside)

pub overflow_add-result-2 : goal.overflow_add-result-2
overflow_add-result-2 c = let a = asked _ _ _ c.requires.0 in
    omega (arith, a.fits, c.wide.ensures.0)

pub returns : goal.returns
unfolding stamp_of header_layout
returns c = simp (c.first_stamp-stamp.ensures, c.wide.ensures.0)
