-- What the contracts cite: record by record, the trace, the lines and the count. Nothing here needs to be believed: ledger_text's Print says in words what is printed.
use Rattle.std.specs.Prelude.{ℕ, ◌+◌, ◌-◌, ◌*◌, ◌%◌, ◌≤◌, ◌≡◌, List, [], ◌∷◌, ◌++◌, length, take, drop, Bool, true, false, None}
use Rattle.std.proofs.Math.Seq.{paste}
use Rattle.sizes.specs.declared.Opening.{Opening}
use Rattle.session_rules.specs.declared.Rest.{Rest}
use Rattle.session_rules.specs.declared.Session.{Session}
use Rattle.records.specs.declared.Form.{Form}
use Rattle.records.specs.Form.{size_of, head_of}
use Rattle.records.specs.Record.{length_at, bytes_at}
use Rattle.trace.specs.declared.State.{State}
use Rattle.trace.specs.declared.State.TheVariants.{Good, Bad, Refused}
use Rattle.trace.specs.declared.Trace.{Trace}
use Rattle.trace.specs.declared.Said.{Said}
use Rattle.trace.specs.Trace as trace
use Rattle.endings.specs.declared.Ending.{Ending}
use Rattle.endings.specs.declared.Endings.{Endings}
use Rattle.endings.specs.Inner.{none_told, tell_taken, tell_closed, list_in}
use Rattle.frame_lines.specs.declared.Show.{Show}
use Rattle.frame_lines.specs.declared.Show.TheVariants.{Nothing, Replay as Lines, Frames}
use Rattle.frame_lines.specs.declared.Counted.{Counted}
use Rattle.frame_lines.specs.Inner.{line_most, lines_in, counted_all}
use Rattle.replay.specs.declared.Replay.{Replay}
use Rattle.replay.specs.declared.Begun.{Begun}
use Rattle.replay.specs.declared.Lined.{Lined}
use Rattle.replay.specs.declared.Progress.{Progress}
use Rattle.text.specs.Put.{Put}
use Rattle.cuts.specs.Cuts.{cut_of, After, least_of}

-- the first line has number 1, and there is no step before it
abbrev pub no_lines : Counted
no_lines = record { number = 1; last = None }

abbrev pub replay_of : Trace → Counted → Replay
replay_of t c = record { trace = t; counted = c }

abbrev pub new_replay : Opening → Replay
new_replay o = replay_of (trace.new_trace o) no_lines

abbrev pub begin_of : Opening → Begun
begin_of o = record { replay = replay_of (trace.begin_of o).trace no_lines; start = (trace.begin_of o).start }

-- THE FRAMES THAT A RECORD'S CALL ENDED, from the rest of the session before it
abbrev pub tell_said : Form → Rest → List ℕ → Said → Endings
tell_said f s r Said.Nothing = none_told
tell_said f s r (Said.Transfer x) = tell_taken s (bytes_at f r) x
tell_said f s r (Said.Close x) = tell_closed s x

-- a record that was a transfer has its bytes
abbrev pub Fits : Form → List ℕ → Said → Type 0
Fits f r Said.Nothing = Unit {0}
Fits f r (Said.Transfer x) = (4 ≤ length r) × (head_of f + length_at f r ≤ length r)
Fits f r (Said.Close x) = Unit {0}

abbrev pub ended_by : State → Form → Session → List ℕ → Endings
ended_by Good f s r = tell_said f s.rest r (trace.said_of f s r)
ended_by (Bad n) f s r = none_told
ended_by (Refused k n) f s r = none_told

abbrev pub ended_of : Form → Trace → List ℕ → List Ending
ended_of f t r = list_in (ended_by t.state f t.session r)

-- ONE RECORD MORE, and its lines
abbrev pub step_of : Form → Show → Trace → Counted → List ℕ → Replay
step_of f w t c r = replay_of (trace.step_of f t r) (counted_all w c (ended_of f t r))

abbrev pub text_of : Form → Show → Trace → Counted → List ℕ → List ℕ
text_of f w t c r = lines_in w c (ended_of f t r)

-- ALL THE RECORDS, and their lines behind those so far
pub record Out : Type 0 where
  pub replay : Replay
  pub text : List ℕ

abbrev pub over : Form → Show → Out → List (List ℕ) → Out
over f w x [] = x
over f w x (r ∷ rs) =
    over f w
    (record { replay = step_of f w x.replay.trace x.replay.counted r; text = x.text ++ text_of f w x.replay.trace x.replay.counted r }) rs

-- the lines of a record have at most so many bytes; those of so many bytes of records
abbrev pub two_lines : ℕ
two_lines = line_most + line_most

abbrev pub room_for : ℕ → ℕ
room_for n = 3 * n + two_lines

-- those of a read, and of the record that it makes whole in the piece
abbrev pub read_room : Form → ℕ → ℕ
read_room f n = room_for (size_of f) + room_for n

abbrev pub is_silent : Show → Bool
is_silent Nothing = true
is_silent Lines = false
is_silent Frames = false

abbrev pub out_of : Replay → List ℕ → Out
out_of p text = record { replay = p; text = text }

-- SOME RECORDS, the last of which may be partial: where they lead from p, and their lines, put from `start` on
pub record Ran (f : Form) (w : Show) (p : Replay) (records old : List ℕ) (start : ℕ) (x : Lined) (new : List ℕ) : Type 0 where
  pub text : List ℕ
  pub leads : out_of x.replay text ≡ over f w (out_of p []) (cut_of (size_of f) records)
  pub put : Put old start text x.at new
  pub most : x.at ≤ start + room_for (length records)

-- THE WHOLE RECORDS OF A READ from `from` on, and what is left over at the front of the piece
abbrev pub stop_of : Form → ℕ → ℕ → ℕ
stop_of f from n = n - (n - from) % size_of f

abbrev pub part_of : Form → ℕ → List ℕ → List ℕ
part_of f from input = take (stop_of f from (length input) - from) (drop from input)

abbrev pub left_of : Form → ℕ → List ℕ → List ℕ
left_of f from input = take (length input - stop_of f from (length input)) (drop (stop_of f from (length input)) input)

pub record Rested (f : Form) (w : Show) (p : Replay) (from : ℕ) (piece input old : List ℕ) (at : ℕ) (x : Progress) (piece' new : List ℕ) : Type 0 where
  pub text : List ℕ
  pub leads : out_of x.reader.replay text ≡ over f w (out_of p []) (cut_of (size_of f) (part_of f from input))
  pub put : Put old at text x.wrote new
  pub have : x.reader.have ≡ least_of (length (left_of f from input)) (length piece - 0)
  pub kept : piece' ≡ paste piece 0 (take x.reader.have (left_of f from input)) x.reader.have

-- AFTER THESE BYTES: the whole records are read, their lines stand at the front of the buffer, and the bytes after them at the front of the piece
pub record Fed (f : Form) (w : Show) (p : Replay) (bytes : List ℕ) (x : Progress) (piece old new : List ℕ) : Type 0 where
  pub text : List ℕ
  pub after : After (size_of f) (over f w) (out_of p []) bytes (out_of x.reader.replay text) x.reader.have piece
  pub put : Put old 0 text x.wrote new
