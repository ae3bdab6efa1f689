use native.Mathlib.Omega.{arith}
use Rattle.host_configuration.proofs.Settings.{place_in, no_such, setting-told}
use Rattle.host_configuration.proofs.setting_among.Goals as goal

pub returns-then-i-count : goal.returns-then-i-count
returns-then-i-count c = search no_such

pub offset_bounds-streams-i : goal.offset_bounds-streams-i
offset_bounds-streams-i c = omega (arith, place_in c.args.streams _ c.args.interface _ c.place_of-i.ensures c.if-i-count.false c.requires)

pub bounds-streams-i : goal.bounds-streams-i
bounds-streams-i c = place_in c.args.streams _ c.args.interface _ c.place_of-i.ensures c.if-i-count.false c.requires

pub returns : goal.returns
returns c = search setting-told
