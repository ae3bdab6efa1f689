-- What the programs print of a trace, from the file's bytes alone: the lines of its frames, as the program shows them, and then the report. And what a run of a program is, by what its calls promise.
use Rattle.std.specs.Prelude.{ℕ, ◌≤◌, ◌≡◌, true, List, [], ◌∷◌, ◌++◌, map, ◌⊎◌, length, take}
use Rattle.sizes.specs.declared.Opening.{Opening}
use Rattle.records.specs.declared.Form.{Form}
use Rattle.records.specs.declared.Form.TheVariants.{Short, Long}
use Rattle.records.specs.Record.{records_of}
use Rattle.trace.specs.declared.Printed.{Printed}
use Rattle.trace.specs.Record.{record_call}
use Rattle.trace.specs.Trace.{ledger_sizes, replay_sizes, report_of}
use Rattle.trace.specs.Standing.{state_of, good_records, printed_by}
use Rattle.trace.specs.Inner.{is_decided}
use Rattle.frame_lines.specs.declared.Show.{Show}
use Rattle.frame_lines.specs.declared.Show.TheVariants.{Nothing, Replay, Frames}
use Rattle.replay.specs.declared.Reader.{Reader}
use Rattle.replay.specs.declared.Lined.{Lined}
use Rattle.replay.specs.declared.Progress.{Progress}
use Rattle.replay.specs.Lines.{lines_of}
use Rattle.replay.specs.Inner.{new_replay, Ran, Fed}
use Rattle.text.specs.Written.{answer_of, buffer_of}
use Rattle.ledger_text.specs.Report.{end_text, room}

-- of a list of records: the lines of the frames that ended by the good ones, those before the record that decides; then the ledger's lines, or `bad record N`, or `refused 52 at record N`
abbrev pub print_records : Show → Form → Opening → List (List ℕ) → List ℕ
print_records w f o rs = lines_of w o (map (record_call f) (good_records f rs)) ++ end_text w (state_of f rs) (printed_by f o (state_of f rs) rs)

-- WHAT IS PRINTED of a trace file
abbrev pub print_of : Show → Form → Opening → List ℕ → List ℕ
print_of w f o file = print_records w f o (records_of f file)

-- by the ledger program, by a replay, and by the list of frames
abbrev pub ledger_of : List ℕ → List ℕ
ledger_of file = print_of Nothing Short ledger_sizes file

abbrev pub replay_of : List ℕ → List ℕ
replay_of file = print_of Replay Long replay_sizes file

abbrev pub frames_of : List ℕ → List ℕ
frames_of file = print_of Frames Long replay_sizes file

-- the bytes of some reads, one after the other
abbrev pub bytes_in : List (List ℕ) → List ℕ
bytes_in [] = []
bytes_in (input ∷ inputs) = input ++ bytes_in inputs

-- THE READS are fed in turn: from a reader and the piece to those after them, with the text that was written of them. What the buffer of the lines held is free.
abbrev pub Feeds : Form → Show → List (List ℕ) → Reader → List ℕ → List ℕ → Reader → List ℕ → Type 0
Feeds f w [] r piece text r' piece' = (r ≡ r') × (piece ≡ piece') × (text ≡ [])
Feeds f w (input ∷ inputs) r piece text r' piece' =
    (x : Progress) × (p : List ℕ) × (old : List ℕ) × (new : List ℕ) × (more : List ℕ)
    × Fed f w r.replay (take r.have piece ++ input) x p old new × (text ≡ take x.wrote new ++ more) × Feeds f w inputs x.reader p more r' piece'

-- A RUN on a file: its bytes are fed in reads of any size, to the end or until a record has decided; then come `last`, `finish` and `end`.
-- What the buffers hold at first is free, as is the piece; the one of the report has room for any.
pub record Run (w : Show) (f : Form) (o : Opening) (file : List ℕ) : Type 0 where
  pub reads : List (List ℕ)
  pub unread : List ℕ
  pub all : file ≡ bytes_in reads ++ unread
  pub piece₀ : List ℕ
  pub reader : Reader
  pub piece : List ℕ
  pub lines : List ℕ
  pub fed : Feeds f w reads (record { replay = new_replay o; have = 0 }) piece₀ lines reader piece
  pub enough : (unread ≡ []) ⊎ (is_decided reader.replay.trace.state ≡ true)
  pub lined : Lined
  pub lined₀ : List ℕ
  pub lined₁ : List ℕ
  pub last : Ran f w reader.replay (take reader.have piece) lined₀ 0 lined lined₁
  pub printed : Printed
  pub finish : printed ≡ report_of lined.replay.trace
  pub buffer₀ : List ℕ
  pub roomy : room ≤ length buffer₀
  pub count : ℕ
  pub buffer : List ℕ
  pub answer : count ≡ answer_of room (end_text w printed.state printed.ledger.numbers) buffer₀
  pub text : buffer ≡ buffer_of room (end_text w printed.state printed.ledger.numbers) buffer₀

-- all that was written, in order
abbrev pub written : {w : Show} {f : Form} {o : Opening} {file : List ℕ} → Run w f o file → List ℕ
written u = u.lines ++ (take u.lined.at u.lined₁ ++ take u.count u.buffer)
