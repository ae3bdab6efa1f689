-- Checking a probe block against a streaming block and its entity table: 41, the streaming block's own refusal, then 42 to 46.
use Rattle.std.specs.Prelude.{ℕ, zero, suc, List, [], ◌∷◌, Bool, not, ◌&&◌, ◌||◌, length, get_or, ltb, leb, eqb}
use Rattle.le.specs.Le.{byte}
use Rattle.rules.specs.IfElse.{if_else}
use Rattle.rules.specs.Numbered.{Row, row, first_row}
use Rattle.rules.specs.Verdicts.{◌and_then◌, Verdict, accept, refuse}
use Rattle.entities.specs.declared.Table.{Table}
use Rattle.entities.specs.declared.Revision.{Revision}
use Rattle.sizes.specs.Sizes.{frame_size_broken, payload_size_broken}
use Rattle.streaming_descriptors.specs.Descriptors.{no_frame}
use Rattle.streaming_rules.specs.Rules.{offers_at}
use Rattle.streaming_descriptors.specs.declared.Frame.{Frame}
use Rattle.rules.specs.Place.{first_place}
use Rattle.streaming.specs.Inner.{streaming_of}
use Rattle.streaming.specs.declared.Streaming.{Streaming}
use Rattle.probe.specs.Fields.{probe_size, fields_of}
use Rattle.probe.specs.declared.Probe.{Probe}

-- the frame at place i of the table
abbrev pub frame_in : List Frame → ℕ → Frame
frame_in l i = get_or l i no_frame

-- 42: the format number is not 1 to the number of formats
unfoldable pub format_missing : ℕ → ℕ → Bool
format_missing number count = eqb number 0 || ltb count number

-- the frame has this number, of this format: its number is byte 3 of its descriptor in the block s
unfoldable pub has_number : List ℕ → ℕ → ℕ → Frame → Bool
has_number s format number f = eqb f.format format && eqb (byte s f.offset 3) number

-- the place of that frame among the n of the table, or n where there is none
abbrev pub frame_place : List ℕ → List Frame → ℕ → ℕ → ℕ → ℕ
frame_place s l n format number = first_place (λ i. has_number s format number (frame_in l i)) n

-- 44 to 46, with the frame whose descriptor stands at o
unfoldable pub frame_rows : List ℕ → ℕ → Probe → List Row
frame_rows s o p =
    row 44 (not (offers_at s o p.interval))
    ∷ row 45 (frame_size_broken p.frame_size)
    ∷ row 46 (payload_size_broken p.payload_size)
    ∷ []

-- 42 to 46, of a block that was accepted
unfoldable pub check_rows : List ℕ → Streaming → Probe → List Row
check_rows s a p =
    let i = frame_place s a.frames a.frame_count p.format p.frame in
    row 42 (format_missing p.format a.format_count)
    ∷ row 43 (leb a.frame_count i)
    ∷ frame_rows s (frame_in a.frames i).offset p

-- no number: yes
unfoldable pub given : ℕ → Verdict
given zero = accept
given (suc k) = refuse (suc k) 0

-- 41: the probe block has not as many bytes as the revision says
abbrev pub length_verdict : Revision → List ℕ → Verdict
length_verdict v b = if_else (eqb (length b) (probe_size v)) accept (refuse 41 0)

-- 41 by the table's revision, then the streaming block's own refusal, then 42 to 46
unfoldable pub check_of : Table → List ℕ → List ℕ → Verdict
check_of t s b = length_verdict t.revision b and_then (streaming_of t s).verdict and_then given (first_row (check_rows s (streaming_of t s) (fields_of b)))
