-- When a streaming block is accepted, and when and where it is refused, said of the block and without a walk.
use Rattle.std.specs.Prelude.{ℕ, ◌+◌, ◌≤◌, ◌<◌, ◌≡◌, List, length, get_or}
use Rattle.rules.specs.Numbered.{Given, NoneOf}
use Rattle.rules.specs.First.{NoneBelow, First}
use Rattle.rules.specs.Walk.{Course, Reached, Clean, FirstBreak}
use Rattle.entities.specs.declared.Table.{Table}
use Rattle.streaming_descriptors.specs.Descriptors.{no_format}
use Rattle.streaming_rules.specs.Rules.{head_rows}
use Rattle.streaming_descriptors.specs.declared.Format.{Format}
use Rattle.streaming.specs.Answer.{Seen, linked_to, link_of, format_count, count_under, course}

-- the block breaks none of 20 to 24
abbrev pub BlockRight : Table → List ℕ → Type 0
BlockRight t s = NoneOf (head_rows t.count s)

-- its descriptors, with their rules 25 to 35
abbrev pub block_course : Table → List ℕ → Course Seen
block_course t s = course (linked_to t (link_of s)) s

-- ---- after the walk, of the format at place i
abbrev pub format_in : Seen → ℕ → Format
format_in a i = get_or a.formats i no_format

-- 36: its frame count is not the number of its frames
abbrev pub CountWrong : Seen → ℕ → Type 0
CountWrong a i = (format_in a i).frames ≡ count_under (i + 1) a.frames → ⊥

-- 37: its default is not 1 to its frame count
abbrev pub DefaultWrong : Seen → ℕ → Type 0
DefaultWrong a i = (1 ≤ (format_in a i).default) × ((format_in a i).default ≤ (format_in a i).frames) → ⊥

-- no rule of 20 to 35 is broken, and these are all of the block's formats and frames, in order
pub record Walked (t : Table) (s : List ℕ) (a : Seen) : Type 0 where
  pub block : BlockRight t s
  pub each : Clean (block_course t s)
  pub there : Reached (block_course t s) a (length s)

-- no rule is broken, and these are all of the block's formats and frames, in order
pub record Sound (t : Table) (s : List ℕ) (a : Seen) : Type 0 where
  pub walked : Walked t s a
  pub counts : NoneBelow (length a.formats) (CountWrong a)
  pub defaults : NoneBelow (length a.formats) (DefaultWrong a)
  pub number : length a.formats ≡ format_count s

-- rule k is the first that is broken, at the first place that breaks it
pub data FirstBroken (t : Table) (s : List ℕ) : ℕ → ℕ → Type 0 where
  -- 20 to 24, of the block
  by-block : (k : ℕ) → Given (head_rows t.count s) k → FirstBroken t s k 0
  -- 25 to 35, of a descriptor
  by-descriptor : (k o : ℕ) → BlockRight t s → FirstBreak (block_course t s) k o → FirstBroken t s k o
  -- 36, then 37, of a format; 38
  by-36 : (a : Seen) → Walked t s a → (i : ℕ) → i < length a.formats → First (CountWrong a) (length a.formats) i → FirstBroken t s 36 (format_in a i).offset
  by-37 :
      (a : Seen) →
      Walked t s a →
      NoneBelow (length a.formats) (CountWrong a) →
      (i : ℕ) →
      i < length a.formats →
      First (DefaultWrong a) (length a.formats) i →
      FirstBroken t s 37 (format_in a i).offset
  by-38 :
      (a : Seen) →
      Walked t s a →
      NoneBelow (length a.formats) (CountWrong a) →
      NoneBelow (length a.formats) (DefaultWrong a) →
      (length a.formats ≡ format_count s → ⊥) →
      FirstBroken t s 38 0
