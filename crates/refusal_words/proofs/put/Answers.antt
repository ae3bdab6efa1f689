use native.Mathlib.Omega.{arith}
use Rattle.refusal_words.proofs.Right.{most-put}
use Rattle.refusal_words.proofs.Different.{none_other}
use borrow.Author.Rules.{rules}
use Rattle.refusal_words.proofs.put.Goals as goal

pub returns-in-1-to-16 : goal.returns-in-1-to-16
returns-in-1-to-16 c = search (most-put, rules)

pub returns-in-20-to-40 : goal.returns-in-20-to-40
returns-in-20-to-40 c = search (most-put, rules)

pub returns-in-41-to-46 : goal.returns-in-41-to-46
returns-in-41-to-46 c = search (most-put, rules)

pub returns-in-70-to-75 : goal.returns-in-70-to-75
returns-in-70-to-75 c = search (most-put, rules)

pub returns-in-80-to-82 : goal.returns-in-80-to-82
returns-in-80-to-82 c = search (most-put, rules)

pub returns-in-90-to-95 : goal.returns-in-90-to-95
returns-in-90-to-95 c = search (most-put, rules)

pub returns-in_default : goal.returns-in_default
returns-in_default c = record { put = none_other _ _ _ (omega arith) (λ a b. omega arith) (λ a b. omega arith) (λ a b. omega arith) (λ a b. omega arith) (λ a b. omega arith); upper_bound = omega arith }

pub returns-in_default-2 : goal.returns-in_default-2
returns-in_default-2 c = record { put = none_other _ _ _ (omega arith) (λ a b. omega arith) (λ a b. omega arith) (λ a b. omega arith) (λ a b. omega arith) (λ a b. omega arith); upper_bound = omega arith }

pub returns-in_default-3 : goal.returns-in_default-3
returns-in_default-3 c = record { put = none_other _ _ _ (omega arith) (λ a b. omega arith) (λ a b. omega arith) (λ a b. omega arith) (λ a b. omega arith) (λ a b. omega arith); upper_bound = omega arith }

pub returns-in_default-4 : goal.returns-in_default-4
returns-in_default-4 c = record { put = none_other _ _ _ (omega arith) (λ a b. omega arith) (λ a b. omega arith) (λ a b. omega arith) (λ a b. omega arith) (λ a b. omega arith); upper_bound = omega arith }

pub returns-in_default-5 : goal.returns-in_default-5
returns-in_default-5 c = record { put = none_other _ _ _ (omega arith) (λ a b. omega arith) (λ a b. omega arith) (λ a b. omega arith) (λ a b. omega arith) (λ a b. omega arith); upper_bound = omega arith }

pub returns-in_default-6 : goal.returns-in_default-6
returns-in_default-6 c = record { put = none_other _ _ _ (omega arith) (λ a b. omega arith) (λ a b. omega arith) (λ a b. omega arith) (λ a b. omega arith) (λ a b. omega arith); upper_bound = omega arith }
