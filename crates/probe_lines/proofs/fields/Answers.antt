use borrow.Author.Rules.{rules}
use native.Mathlib.Omega.{arith}
use Rattle.name_tables.proofs.Each.{enough}
use Rattle.probe_lines.proofs.Joined.{joined}
use Rattle.probe_lines.proofs.fields.Goals as goal

pub lines-named-requires : goal.lines-named-requires
lines-named-requires c = (enough _ _ _ 21 (search rules) tt, omega arith)

pub returns : goal.returns
returns c = record { put = search joined; upper_bound = omega arith }
