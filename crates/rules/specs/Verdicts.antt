-- What a reader says: yes, or the number and the place of the first rule that is broken. One after the other: the first refusal decides.
use Rattle.std.specs.Prelude.{ℕ, Result, Ok, Err}
use Rattle.rules.specs.declared.Refused.{Refused}

abbrev pub Verdict : Type 0
Verdict = Result (Unit {0}) Refused

abbrev pub accept : Verdict
accept = Ok tt

abbrev pub refuse : ℕ → ℕ → Verdict
refuse k o = Err (record { number = k; offset = o })

infixr 30 ◌and_then◌
abbrev pub ◌and_then◌ : Verdict → Verdict → Verdict
Ok u and_then v = v
Err r and_then v = Err r
