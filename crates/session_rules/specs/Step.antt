-- Document 01, "Steps": later minus earlier modulo 2^32, read as signed from −2^31 to 2^31−1.
use Rattle.std.specs.Prelude.{ℕ, ◌+◌, ◌-◌, ◌%◌, ◌^◌, ltb}
use Rattle.rules.specs.IfElse.{if_else}
use Rattle.session_rules.specs.declared.Step.{Step}
use Rattle.session_rules.specs.declared.Step.TheVariants.{Forward, Backward}

-- later minus earlier modulo 2^32
abbrev pub ahead_of : ℕ → ℕ → ℕ
ahead_of earlier later = (later + 2 ^ 32 - earlier) % 2 ^ 32

-- below 2^31 it is forward; from there on it stands for a number below zero
abbrev pub step_of : ℕ → ℕ → Step
step_of earlier later =
    if_else (ltb (ahead_of earlier later) (2 ^ 31)) (Forward (ahead_of earlier later)) (Backward (2 ^ 32 - ahead_of earlier later))
