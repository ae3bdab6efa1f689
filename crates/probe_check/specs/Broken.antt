-- When a check says yes, and by which number it refuses otherwise, in the words of document 01.
use Rattle.std.specs.Prelude.{ℕ, ◌+◌, ◌≤◌, ◌<◌, ◌≡◌, List, [], ◌∷◌, length, get_or}
use Rattle.le.specs.Le.{byte}
use Rattle.rules.specs.First.{First}
use Rattle.rules.specs.Asked.{Rule, rule, AllKept, FirstFails}
use Rattle.entities.specs.declared.Table.{Table}
use Rattle.intervals.specs.Intervals.{Offered}
use Rattle.sizes.specs.Sizes.{frame_most, payload_least, payload_most}
use Rattle.streaming_descriptors.specs.Descriptors.{no_frame, kind_at, format_of, k_at, intervals_at}
use Rattle.streaming.specs.Answer.{Seen}
use Rattle.streaming.specs.Broken.{Sound, FirstBroken}
use Rattle.probe.specs.Fields.{probe_size, fields_of}
use Rattle.probe.specs.declared.Probe.{Probe}

-- 42: the format is one of the block's
abbrev pub FormatGiven : Seen → Probe → Type 0
FormatGiven a p = (1 ≤ p.format) × (p.format ≤ length a.formats)

-- where the descriptor of the frame at place i stands
abbrev pub offset_in : Seen → ℕ → ℕ
offset_in a i = (get_or a.frames i no_frame).offset

-- 43: the frame at place i is of that format, and its descriptor has that number
abbrev pub FrameGiven : List ℕ → Seen → Probe → ℕ → Type 0
FrameGiven s a p i = ((get_or a.frames i no_frame).format ≡ p.format) × (byte s (offset_in a i) 3 ≡ p.frame)

-- 44: the interval could be the default of the frame at o
abbrev pub IntervalGiven : List ℕ → ℕ → Probe → Type 0
IntervalGiven s o p = Offered s (o + intervals_at) (k_at (format_of (kind_at s o)) s o) p.interval

-- the frame that the block names: the first of that format and that number
abbrev pub FrameNamed : List ℕ → Seen → Probe → ℕ → Type 0
FrameNamed s a p i = (i < length a.frames) × First (FrameGiven s a p) (length a.frames) i

-- WHAT 42 TO 46 ASK of the fields p, against a block s that was accepted with these formats and frames
abbrev pub check_rules : List ℕ → Seen → Probe → List Rule
check_rules s a p =
    rule 42 (FormatGiven a p)
    ∷ rule 43 ((i : ℕ) × FrameNamed s a p i)
    ∷ rule 44 ((i : ℕ) → FrameNamed s a p i → IntervalGiven s (offset_in a i) p)
    ∷ rule 45 ((1 ≤ p.frame_size) × (p.frame_size ≤ frame_most))
    ∷ rule 46 ((payload_least ≤ p.payload_size) × (p.payload_size ≤ payload_most))
    ∷ []

-- the probe block has as many bytes as the table's revision says, and no rule of the streaming block is broken
pub record Read (t : Table) (s b : List ℕ) (a : Seen) : Type 0 where
  pub whole : length b ≡ probe_size t.revision
  pub sound : Sound t s a

-- every one of 41, the block's own rules and 42 to 46 is kept
pub record Yes (t : Table) (s b : List ℕ) : Type 0 where
  pub seen : Seen
  pub read : Read t s b seen
  pub kept : AllKept (check_rules s seen (fields_of b))

-- the first that is not
pub data No (t : Table) (s b : List ℕ) : ℕ → ℕ → Type 0 where
  of_length : (length b ≡ probe_size t.revision → ⊥) → No t s b 41 0
  of-block : (k o : ℕ) → length b ≡ probe_size t.revision → FirstBroken t s k o → No t s b k o
  of-rule : (a : Seen) → Read t s b a → (k : ℕ) → FirstFails (check_rules s a (fields_of b)) k → No t s b k 0
