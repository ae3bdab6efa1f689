use native.Mathlib.Omega.{arith}
use Rattle.picking.proofs.Choosing.{no_stream_lem, place_in, none-large, one-large}
use Rattle.picking.proofs.pick_among.Goals as goal

pub returns-then-i-count : goal.returns-then-i-count
returns-then-i-count c = search no_stream_lem

pub offset_bounds-streams-i : goal.offset_bounds-streams-i
offset_bounds-streams-i c = omega (arith, place_in c.args.streams _ c.args.interface _ c.place_of-i.ensures c.if-i-count.false c.requires)

pub bounds-streams-i : goal.bounds-streams-i
bounds-streams-i c = place_in c.args.streams _ c.args.interface _ c.place_of-i.ensures c.if-i-count.false c.requires

pub returns-in-None : goal.returns-in-None
returns-in-None c = none-large _ _ _ _ _ _ c.place_of-i.ensures c.if-i-count.false _ c.fewest.ensures c.in-None.is _ c.refused-in-None.ensures

pub returns-in-Some : goal.returns-in-Some
returns-in-Some c = one-large _ _ _ _ _ _ c.place_of-i.ensures c.if-i-count.false _ c.fewest.ensures _ c.in-Some.is
