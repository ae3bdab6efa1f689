use native.Mathlib.Omega.{arith}
use Rattle.sizes.specs.declared.HeaderKind.TheVariants.{Old, Vp8}
use Rattle.session_rules.specs.Layouts.{header_layout}
use Rattle.session_rules.proofs.Laid.{laid}
use Rattle.session_rules.proofs.Readings.{idle-here, read-kind}
use Rattle.payload.proofs.read.Goals as goal

pub returns-then-t-eq0 : goal.returns-then-t-eq0
returns-then-t-eq0 c = search idle-here

pub read_by-requires : goal.read_by-requires
unfolding header_layout
read_by-requires c = laid Old

pub read_by-requires-in-Vp8 : goal.read_by-requires-in-Vp8
unfolding header_layout
read_by-requires-in-Vp8 c = laid Vp8

pub returns-in-Old : goal.returns-in-Old
unfolding header_layout
returns-in-Old c = read-kind c.args.o _ Old _ (omega (arith, c.if-t-eq0.false)) c.in-Old.is c.read_by.ensures

pub returns-in-Vp8 : goal.returns-in-Vp8
unfolding header_layout
returns-in-Vp8 c = read-kind c.args.o _ Vp8 _ (omega (arith, c.if-t-eq0.false)) c.in-Vp8.is c.read_by-in-Vp8.ensures
