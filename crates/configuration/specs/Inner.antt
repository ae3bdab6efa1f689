-- What reading a configuration answers, computed. Nothing here needs to be believed: configuration_words/specs says it in words. `s` is the configuration.
use Rattle.std.specs.Prelude.{ℕ, ◌+◌, ◌≡◌, List, [], ◌∷◌, Bool, replicate, eqb, leb, Err, Ok}
use Rattle.rules.specs.IfElse.{if_else}
use Rattle.rules.specs.Place.{first_place}
use Rattle.rules.specs.Verdicts.{◌and_then◌, Verdict, accept, refuse}
use Rattle.entities.specs.declared.Table.{Table}
use Rattle.control.specs.Answer.{ControlIs}
use Rattle.control.specs.declared.Control as control
use Rattle.streaming.specs.Inner.{streaming_of}
use Rattle.configuration_rules.specs.declared.Sought.TheVariants as sought
use Rattle.interfaces.specs.Inner.{next_of, block_start, block_of, block_at, listed_in, streams_of, place_of}
use Rattle.interfaces.specs.Limits.{interfaces_most, no_stream}
use Rattle.interfaces.specs.declared.Stream.{Stream}
use Rattle.configuration_layout.specs.Inner.{layout_verdict}
use Rattle.configuration.specs.declared.Configuration.{Configuration}
use Rattle.configuration.specs.Answer.{entry_count, entry_at, no_block}

-- a block's own refusal, at its place in the configuration: where the block starts, plus the offset that its reader gives
abbrev pub moved : ℕ → Verdict → Verdict
moved a (Ok _) = accept
moved a (Err r) = refuse r.number (a + r.offset)

-- 73: the first entry of the control block b without its interface among the streams
abbrev pub first_unnamed : List ℕ → List Stream → ℕ → ℕ
first_unnamed b l n = first_place (λ j. eqb (place_of l n (entry_at b j)) n) (entry_count b)

-- every entry has its interface
unfoldable pub entries_named : List ℕ → List Stream → ℕ → Bool
entries_named b l n = leb (entry_count b) (first_unnamed b l n)

-- at the start a of the control block b
unfoldable pub verdict73 : List ℕ → List ℕ → ℕ → Verdict
verdict73 s b a = if_else (entries_named b (streams_of s).streams (streams_of s).count) accept (refuse 73 a)

-- the own refusal of the streaming block behind the interface descriptor at o, read against the control block's entity table t
unfoldable pub block_verdict : List ℕ → Table → ℕ → Verdict
block_verdict s t o = moved (block_start s o) (streaming_of t (block_of s o)).verdict

-- the first of them in order of appearance
unfoldable pub streams_by : List ℕ → Table → List ℕ → Verdict
streams_by s t [] = accept
streams_by s t (o ∷ l) = block_verdict s t o and_then streams_by s t l

-- after 70, 71, 72 and 75: the control block's own, 73, then the streaming blocks' own. `c` is what the control reader answers of the block behind the interface
-- descriptor at o
unfoldable pub late_by : List ℕ → ℕ → control.Control → Verdict
late_by s o c =
    moved (block_start s o) c.verdict and_then (verdict73 s (block_of s o) (block_start s o) and_then streams_by s c.table (listed_in s))

pub record LateIs (s : List ℕ) (o : ℕ) (v : Verdict) : Type 0 where
  pub answer : control.Control
  pub read : ControlIs (block_of s o) answer
  pub same : v ≡ late_by s o answer

-- ---- the answer
abbrev pub control_place : List ℕ → ℕ
control_place s = next_of sought.Control s 0

-- refused: all zero
unfoldable pub refused_by : ℕ → ℕ → Configuration
refused_by k o = record { verdict = refuse k o; control = no_block; count = 0; streams = replicate interfaces_most no_stream }

unfoldable pub accepted_with : List ℕ → Configuration
accepted_with s = record { verdict = accept; control = block_at s (control_place s); count = (streams_of s).count; streams = (streams_of s).streams }

pub data ConfigurationIs (s : List ℕ) : Configuration → Type 0 where
  -- 70, 71, 72, 75
  laid : (k o : ℕ) → layout_verdict s ≡ refuse k o → ConfigurationIs s (refused_by k o)
  -- the control block's own, 73, the streaming blocks' own
  blocks : (k o : ℕ) → layout_verdict s ≡ accept → LateIs s (control_place s) (refuse k o) → ConfigurationIs s (refused_by k o)
  -- none is broken
  sound : layout_verdict s ≡ accept → LateIs s (control_place s) accept → ConfigurationIs s (accepted_with s)
