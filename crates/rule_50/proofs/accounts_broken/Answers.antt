use native.Mathlib.Omega.{arith}
use Rattle.rule_50.proofs.Checks.{some-account, no-account}
use Rattle.rule_50.proofs.accounts_broken.Goals as goal

pub returns-then-account_broken : goal.returns-then-account_broken
returns-then-account_broken c = search some-account

pub returns : goal.returns
returns c = no-account c.args.m.now c.args.n (λ k h. c.loop-k.invariant k (omega arith))
