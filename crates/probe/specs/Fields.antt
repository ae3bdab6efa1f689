-- The bytes of a probe block, field by field, and what reading and writing them does. A block of an older revision has the first of the 48.
use Rattle.rules.specs.Verdicts.{Verdict, accept, refuse}
use Rattle.std.specs.Prelude.{ℕ, zero, suc, ◌+◌, ◌/◌, ◌%◌, ◌^◌, ◌≤◌, ◌<◌, ◌≡◌, List, [], ◌∷◌, ◌++◌, length, get_or, take, drop, replicate, ltb, eqb}
use Rattle.le.specs.Le.{le16_at, le32_at}
use Rattle.rules.specs.IfElse.{if_else}
use Rattle.entities.specs.Revisions.{says_of}
use Rattle.entities.specs.declared.Revision.{Revision}
use Rattle.entities.specs.declared.Revision.TheVariants.{R10, R11, R15}
use Rattle.probe.specs.declared.Probe.{Probe}
use Rattle.probe.specs.declared.Fields.{Fields}

-- 26, 34 or 48
abbrev pub probe_size : Revision → ℕ
probe_size v = (says_of v).probe

-- the n bytes from o on
abbrev pub bytes_at : List ℕ → ℕ → ℕ → List ℕ
bytes_at s o zero = []
bytes_at s o (suc n) = get_or s o 0 ∷ bytes_at s (o + 1) n

-- a number as two bytes and as four, the low one first
abbrev pub two : ℕ → List ℕ
two x = x % 256 ∷ x / 256 % 256 ∷ []

abbrev pub four : ℕ → List ℕ
four x = x % 256 ∷ x / 256 % 256 ∷ x / 65536 % 256 ∷ x / 16777216 % 256 ∷ []

-- where each field stands; what stands past the end reads as 0
unfoldable pub fields_of : List ℕ → Probe
fields_of s =
    record {
      hint = le16_at s 0;
      format = get_or s 2 0;
      frame = get_or s 3 0;
      interval = le32_at s 4;
      key_rate = le16_at s 8;
      p_rate = le16_at s 10;
      quality = le16_at s 12;
      window = le16_at s 14;
      delay = le16_at s 16;
      frame_size = le32_at s 18;
      payload_size = le32_at s 22;
      clock = le32_at s 26;
      framing = get_or s 30 0;
      preferred = get_or s 31 0;
      minimum = get_or s 32 0;
      maximum = get_or s 33 0;
      usage = get_or s 34 0;
      luma_depth = get_or s 35 0;
      settings = get_or s 36 0;
      reference_frames = get_or s 37 0;
      rate_modes = le16_at s 38;
      layout = bytes_at s 40 8;
    }

unfoldable pub bytes_of : Probe → List ℕ
bytes_of p =
    two p.hint
    ++ (p.format ∷ p.frame ∷ four p.interval
    ++ (two p.key_rate
    ++ (two p.p_rate
    ++ (two p.quality
    ++ (two p.window
    ++ (two p.delay
    ++ (four p.frame_size
    ++ (four p.payload_size
    ++ (four p.clock
    ++ (p.framing ∷ p.preferred ∷ p.minimum ∷ p.maximum ∷ p.usage ∷ p.luma_depth ∷ p.settings ∷ p.reference_frames ∷ two p.rate_modes
    ++ bytes_at p.layout 0 8))))))))))

-- all zero
abbrev pub no_fields : Probe
no_fields =
    record {
      hint = 0;
      format = 0;
      frame = 0;
      interval = 0;
      key_rate = 0;
      p_rate = 0;
      quality = 0;
      window = 0;
      delay = 0;
      frame_size = 0;
      payload_size = 0;
      clock = 0;
      framing = 0;
      preferred = 0;
      minimum = 0;
      maximum = 0;
      usage = 0;
      luma_depth = 0;
      settings = 0;
      reference_frames = 0;
      rate_modes = 0;
      layout = replicate 8 0;
    }

-- the fields that the revision has; the others are 0
unfoldable pub kept_in : Revision → Probe → Probe
kept_in R10 p = record {
  hint = p.hint;
  format = p.format;
  frame = p.frame;
  interval = p.interval;
  key_rate = p.key_rate;
  p_rate = p.p_rate;
  quality = p.quality;
  window = p.window;
  delay = p.delay;
  frame_size = p.frame_size;
  payload_size = p.payload_size;
  clock = 0;
  framing = 0;
  preferred = 0;
  minimum = 0;
  maximum = 0;
  usage = 0;
  luma_depth = 0;
  settings = 0;
  reference_frames = 0;
  rate_modes = 0;
  layout = replicate 8 0;
}
kept_in R11 p = record {
  hint = p.hint;
  format = p.format;
  frame = p.frame;
  interval = p.interval;
  key_rate = p.key_rate;
  p_rate = p.p_rate;
  quality = p.quality;
  window = p.window;
  delay = p.delay;
  frame_size = p.frame_size;
  payload_size = p.payload_size;
  clock = p.clock;
  framing = p.framing;
  preferred = p.preferred;
  minimum = p.minimum;
  maximum = p.maximum;
  usage = 0;
  luma_depth = 0;
  settings = 0;
  reference_frames = 0;
  rate_modes = 0;
  layout = replicate 8 0;
}
kept_in R15 p = p

-- reading: 41 unless there are exactly as many bytes as the revision says
unfoldable pub probe_of : Revision → List ℕ → Fields
probe_of v s =
    if_else (eqb (length s) (probe_size v)) (record { verdict = accept; probe = fields_of s }) (record { verdict = refuse 41 0; probe = no_fields })

-- writing: 41 where there is room for fewer bytes than the revision says, and then no byte changes; else the first so many, and no other
unfoldable pub room_verdict : Revision → List ℕ → Verdict
room_verdict v room = if_else (ltb (length room) (probe_size v)) (refuse 41 0) accept

unfoldable pub written : Revision → Probe → List ℕ → List ℕ
written v p room = if_else (ltb (length room) (probe_size v)) room (take (probe_size v) (bytes_of p) ++ drop (probe_size v) room)

-- the fields of more than one byte are numbers of their width, and the layout has eight bytes: what the type of a probe says
pub record Held (p : Probe) : Type 0 where
  pub hint : p.hint < 2 ^ 16
  pub interval : p.interval < 2 ^ 32
  pub key_rate : p.key_rate < 2 ^ 16
  pub p_rate : p.p_rate < 2 ^ 16
  pub quality : p.quality < 2 ^ 16
  pub window : p.window < 2 ^ 16
  pub delay : p.delay < 2 ^ 16
  pub frame_size : p.frame_size < 2 ^ 32
  pub payload_size : p.payload_size < 2 ^ 32
  pub clock : p.clock < 2 ^ 32
  pub rate_modes : p.rate_modes < 2 ^ 16
  pub layout : length p.layout ≡ 8

-- every element is a byte: what the type of a slice says
abbrev pub AllBytes : List ℕ → Type 0
AllBytes s = (i : ℕ) → get_or s i 0 < 256

-- THE ROUND TRIP, over the revision. Every field is a number of its type and every byte is under 256, so that these hold of all that is read and written: they
-- stand in the promises of `read` and `write`, where the types tell it.
-- writing what was read gives the block's bytes back, and leaves the rest
abbrev pub WritesBack : Revision → Probe → List ℕ → Type 0
WritesBack v p s = length s ≡ probe_size v → (room : List ℕ) → probe_size v ≤ length room → written v p room ≡ s ++ drop (probe_size v) room

-- reading what was written gives the fields back, with those that the revision lacks as 0
abbrev pub ReadsBack : Revision → Probe → List ℕ → Type 0
ReadsBack v p room = probe_size v ≤ length room → probe_of v (take (probe_size v) room) ≡ record { verdict = accept; probe = kept_in v p }
