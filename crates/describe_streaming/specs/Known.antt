-- What is known of a control block before a streaming block is read: the table, where there is one, is that of some bytes that are accepted.
use Rattle.rules.specs.Verdicts.{accept}
use Rattle.std.specs.Prelude.{ℕ, ◌≡◌, List, Option, IfSome}
use Rattle.entities.specs.declared.Table.{Table}
use Rattle.control.specs.declared.Control.{Control}
use Rattle.control.specs.Answer.{ControlIs}

pub record KnowsOf (table : Table) : Type 0 where
  pub block : List ℕ
  pub control : Control
  pub reads : ControlIs block control
  pub table-is : table ≡ control.table
  pub accepted : control.verdict ≡ accept

abbrev pub Knows : Option Table → Type 0
Knows k = IfSome k KnowsOf
