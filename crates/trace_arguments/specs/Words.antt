-- The words of a call that reads or makes a trace: options by their names, and what names a file.
use Rattle.std.specs.Prelude.{ℕ, ◌≡◌, Bool, true, false, ◌&&◌, List, [], ◌∷◌, eqb}
use Rattle.text.specs.Text.{bytes}
use Rattle.sizes.specs.declared.Opening.{Opening}
use Rattle.sizes.specs.declared.HeaderKind.TheVariants.{Old}
use Rattle.trace_arguments.specs.declared.Word.{Word}
use Rattle.trace_arguments.specs.declared.Word.TheVariants.{Sizes, Short, Stamp, Unknown, File}
use Rattle.trace_arguments.specs.declared.reading.Awaits.{Awaits}
use Rattle.trace_arguments.specs.declared.reading.Awaits.TheVariants.{Any, Frame, Payload, Nothing}

-- two dashes at its front
abbrev pub dashed : List ℕ → Bool
dashed [] = false
dashed (a ∷ []) = false
dashed (a ∷ b ∷ l) = eqb a 45 && eqb b 45

-- what a word is: an option, an unknown one, or a file
pub data Reads (word : List ℕ) : Word → Type 0 where
  sizes : word ≡ bytes "--sizes" → Reads word Sizes
  short : word ≡ bytes "--short" → Reads word Short
  stamp : word ≡ bytes "--stamp" → Reads word Stamp
  unknown : dashed word ≡ true → (word ≡ bytes "--sizes" → ⊥) → (word ≡ bytes "--short" → ⊥) → (word ≡ bytes "--stamp" → ⊥) → Reads word Unknown
  file : dashed word ≡ false → Reads word File

-- frames that end by EOF, the old kind of header, and these sizes
abbrev pub opening_of : ℕ → ℕ → Opening
opening_of frame payload = record { frame = frame; payload = payload; framing = 3; kind = Old }

-- a call is right where no word was wrong, and none is missing behind `--sizes`
abbrev pub is_right : Awaits → Bool
is_right Any = true
is_right Frame = false
is_right Payload = false
is_right Nothing = false
