use borrow.Author.Rules.{rules}
use native.Mathlib.Omega.{arith}
use Rattle.ledger_text.specs.Report.{rows}
use Rattle.session_rules.specs.Accounts.{number_count}
use Rattle.name_tables.proofs.Each.{enough}
use Rattle.ledger_text.proofs.ledger.Goals as goal

pub lines-requires : goal.lines-requires
lines-requires c = (enough _ _ _ number_count (search rules) tt, omega arith)

-- the code's table is the report's rows
pub returns : goal.returns
unfolding rows
returns c = c.lines.ensures.put
