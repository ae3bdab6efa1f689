use native.Mathlib.Omega.{arith}
use Rattle.sources.proofs.Found.{no_output, output-at}
use Rattle.sources.proofs.links.names_output.Goals as goal

pub offset_bounds-t-j : goal.offset_bounds-t-j
offset_bounds-t-j c = omega (arith, c.requires.0 _ c.in-Some.is)

pub bounds-t-j : goal.bounds-t-j
bounds-t-j c = omega (arith, c.requires.0 _ c.in-Some.is)

pub returns-in-None : goal.returns-in-None
returns-in-None c = no_output _ c.args.t c.in-None.is

pub returns-in-Some : goal.returns-in-Some
returns-in-Some c = output-at _ c.args.t _ c.in-Some.is (c.requires.0 _ c.in-Some.is)
