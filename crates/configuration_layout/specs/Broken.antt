-- When a configuration is laid out as it must be, and which of 70, 71, 72 and 75 is the first that it breaks.
use Rattle.std.specs.Prelude.{ℕ, ◌≤◌, ◌<◌, ◌≡◌, List, length}
use Rattle.le.specs.Le.{le16_at}
use Rattle.rules.specs.Walk.{Clean, FirstBreak}
use Rattle.configuration_rules.specs.Descriptors.{configuration_type, type_at}
use Rattle.configuration_rules.specs.Words.{ControlFirst}
use Rattle.interfaces.specs.Line.{course}
use Rattle.configuration_layout.specs.Words.{Starts, FirstTooMany, NoneTooMany}

-- the fewest bytes of a configuration, and the most
abbrev pub bytes_least : ℕ
bytes_least = 9

abbrev pub bytes_most : ℕ
bytes_most = 32768

-- 70 of the whole: 9 to 32,768 bytes, a configuration descriptor first
pub record Whole (s : List ℕ) : Type 0 where
  pub least : bytes_least ≤ length s
  pub most : length s ≤ bytes_most
  pub first : type_at s 0 ≡ configuration_type

-- 70 and 71 are kept
pub record Kept-70-71 (s : List ℕ) : Type 0 where
  pub whole : Whole s
  pub each : Clean (course s)
  pub total : le16_at s 2 ≡ length s

-- the one control interface stands at o
pub record OneControl (s : List ℕ) (o : ℕ) : Type 0 where
  pub starts : Starts s o
  pub control : ControlFirst s o
  pub only : (p : ℕ) → Starts s p → ControlFirst s p → p ≡ o

-- the second control interface stands at o: behind one, and no other stands before it
pub record SecondControl (s : List ℕ) (o : ℕ) : Type 0 where
  pub starts : Starts s o
  pub control : ControlFirst s o
  pub other : ℕ
  pub other-starts : Starts s other
  pub other-control : ControlFirst s other
  pub behind : other < o
  pub between : (p : ℕ) → Starts s p → ControlFirst s p → p < o → p ≡ other

-- none of 70, 71, 72 and 75 is broken; the control interface stands at o
pub record Laid (s : List ℕ) (o : ℕ) : Type 0 where
  pub kept : Kept-70-71 s
  pub one : OneControl s o
  pub few : NoneTooMany s

-- rule k is the first that is broken, number by number, at o
pub data FirstMislaid (s : List ℕ) : ℕ → ℕ → Type 0 where
  by-70-whole : (Whole s → ⊥) → FirstMislaid s 70 0
  by-70 : (o : ℕ) → Whole s → FirstBreak (course s) 70 o → FirstMislaid s 70 o
  by-71 : Whole s → Clean (course s) → (le16_at s 2 ≡ length s → ⊥) → FirstMislaid s 71 0
  by-72-none : Kept-70-71 s → ((o : ℕ) → Starts s o → ControlFirst s o → ⊥) → FirstMislaid s 72 0
  by-72-second : (o : ℕ) → Kept-70-71 s → SecondControl s o → FirstMislaid s 72 o
  by-75 : (o c : ℕ) → Kept-70-71 s → OneControl s c → FirstTooMany s o → FirstMislaid s 75 o
