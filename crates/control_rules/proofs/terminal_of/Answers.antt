use native.Mathlib.Omega.{arith}
use Rattle.control_rules.proofs.Subtypes.{terminal-in, terminal-else, terminal-room}
use Rattle.control_rules.proofs.terminal_of.Goals as goal

pub le16-requires : goal.le16-requires
le16-requires c = terminal-room _ _ _ (omega arith) (omega arith) c.requires

pub returns-in-2 : goal.returns-in-2
returns-in-2 c = terminal-in _ _ _ _ (omega arith) (omega arith) c.le16.ensures

pub returns-in_default : goal.returns-in_default
returns-in_default c = terminal-else _ _ _ (λ e. omega arith) (λ e. omega arith)

pub returns-in_default-2 : goal.returns-in_default-2
returns-in_default-2 c = terminal-else _ _ _ (λ e. omega arith) (λ e. omega arith)
