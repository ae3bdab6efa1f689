use Rattle.payload.proofs.Rungs.{unended-here, unstamped-here, none_here}
use native.Mathlib.Omega.{arith}
use Rattle.rules.proofs.Kept.{kept_rungs}
use Rattle.session_rules.specs.Transfer.{rows_by}
use Rattle.payload.proofs.unreadable_by.Goals as goal

pub returns-then-n-l : goal.returns-then-n-l
unfolding rows_by
returns-then-n-l c = search kept_rungs depth 24

pub returns-then-payload-n : goal.returns-then-payload-n
unfolding rows_by
returns-then-payload-n c = search kept_rungs depth 24

pub overflow_cast-len : goal.overflow_cast-len
overflow_cast-len c = omega (arith, c.type_inv.t 0)

pub returns-then-len-l : goal.returns-then-len-l
unfolding rows_by
returns-then-len-l c = search kept_rungs depth 24

pub returns-then-n-len : goal.returns-then-n-len
unfolding rows_by
returns-then-n-len c = search kept_rungs depth 24

pub returns-then-too_short : goal.returns-then-too_short
unfolding rows_by
returns-then-too_short c = rw (← c.flags_at-flags.ensures) (search kept_rungs depth 24)

pub returns-then-unended : goal.returns-then-unended
returns-then-unended c = search unended-here

pub returns-then-stamp_missing : goal.returns-then-stamp_missing
returns-then-stamp_missing c = search unstamped-here

pub returns : goal.returns
returns c = search none_here
