-- What is answered by 70, 71, 72 and 75, computed: number by number over the whole configuration `s`. Nothing here needs to be believed: Broken says it in words.
use Rattle.std.specs.Prelude.{ℕ, List, [], ◌∷◌, length, ltb, eqb}
use Rattle.le.specs.Le.{le16_at}
use Rattle.rules.specs.IfElse.{if_else}
use Rattle.rules.specs.Verdicts.{◌and_then◌, Verdict, accept, refuse}
use Rattle.configuration_rules.specs.Descriptors.{configuration_type, type_at}
use Rattle.configuration_rules.specs.declared.Sought.TheVariants.{Broken, Control}
use Rattle.interfaces.specs.Inner.{found, next_of, too_many}
use Rattle.configuration_layout.specs.Broken.{bytes_least, bytes_most}

-- 70: under 9 or over 32,768 bytes, no configuration descriptor first; then the first descriptor that breaks it
unfoldable pub verdict70 : List ℕ → Verdict
verdict70 s =
    if_else (ltb (length s) bytes_least) (refuse 70 0)
    (if_else (ltb bytes_most (length s)) (refuse 70 0)
    (if_else (eqb (type_at s 0) configuration_type)
    (if_else (ltb (next_of Broken s 0) (length s)) (refuse 70 (next_of Broken s 0)) accept)
    (refuse 70 0)))

-- 71: the total length, bytes 2 and 3, is not the number of bytes
unfoldable pub verdict71 : List ℕ → Verdict
verdict71 s = if_else (eqb (le16_at s 2) (length s)) accept (refuse 71 0)

-- 72: no control block, or two; at the second one's interface descriptor
unfoldable pub controls_verdict : List ℕ → Verdict
controls_verdict [] = refuse 72 0
controls_verdict (o ∷ []) = accept
controls_verdict (o ∷ (p ∷ l)) = refuse 72 p

abbrev pub verdict72 : List ℕ → Verdict
verdict72 s = controls_verdict (found Control s 0)

-- 75: at the interface descriptor that is one too many
unfoldable pub verdict75 : List ℕ → Verdict
verdict75 s = if_else (ltb (too_many s) (length s)) (refuse 75 (too_many s)) accept

unfoldable pub layout_verdict : List ℕ → Verdict
layout_verdict s = verdict70 s and_then (verdict71 s and_then (verdict72 s and_then verdict75 s))
