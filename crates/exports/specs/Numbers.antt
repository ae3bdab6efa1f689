-- What a reader says of a block, as one number: 0 for accepted, else the number of the first broken rule.
use Rattle.rules.specs.Verdicts.{Verdict}
use Rattle.std.specs.Prelude.{ℕ, ◌≡◌, List, Err, Ok}
use Rattle.entities.specs.declared.Table.{Table}
use Rattle.control.specs.declared.Control.{Control}
use Rattle.control.specs.Answer.{ControlIs}
use Rattle.configuration.specs.declared.Configuration.{Configuration}
use Rattle.configuration.specs.Inner.{ConfigurationIs}
use Rattle.streaming.specs.Inner.{streaming_of}

unfoldable pub number_of : Verdict → ℕ
number_of (Ok _) = 0
number_of (Err r) = r.number

-- the streaming block t under a control block's answer: the control block's own refusal comes first
unfoldable pub number_under : Verdict → Table → List ℕ → ℕ
number_under (Ok _) table t = number_of (streaming_of table t).verdict
number_under (Err r) table t = r.number

-- the control block s is read so
pub record ControlNumber (s : List ℕ) (r : ℕ) : Type 0 where
  pub control : Control
  pub read : ControlIs s control
  pub number : r ≡ number_of control.verdict

-- the streaming block t is read so with the table of the control block s
pub record StreamingNumber (s t : List ℕ) (r : ℕ) : Type 0 where
  pub control : Control
  pub read : ControlIs s control
  pub number : r ≡ number_under control.verdict control.table t

-- the configuration s is read so
pub record ConfigurationNumber (s : List ℕ) (r : ℕ) : Type 0 where
  pub configuration : Configuration
  pub read : ConfigurationIs s configuration
  pub number : r ≡ number_of configuration.verdict
