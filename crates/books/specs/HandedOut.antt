-- Document 02, Two: what is demanded of hand-outs, the words of specs/Statement.antt.
use Rattle.std.specs.Prelude.{ℕ, ◌≡◌, Bool, true, false, not, ◌&&◌, ◌||◌, List, [], ◌∷◌, length, take, None}
use Rattle.sizes.specs.declared.Opening.{Opening}
use Rattle.sizes.specs.Framing.{by_eof}
use Rattle.session_rules.specs.declared.Header.{Header}
use Rattle.session_rules.specs.declared.Reading.TheVariants.{Readable}
use Rattle.session_rules.specs.Transfer.{reading_of}
use Rattle.session_rules.specs.declared.HandOut.{HandOut}
use Rattle.session_rules.specs.Call.{Call}
use Rattle.books.specs.Rule.{events, Seen, readables, runs, closes, frame_of, closed, complete, data_of, gap_after, fault}
use Rattle.books.specs.Answer.{last_run, turns, out_of}

-- HANDED OUT EXACTLY WHEN, from the list alone: D1 clear, the transfer readable, the last run of the other FID and unmarked, its frame without fault so far and with
-- data. What is handed out is that frame.
pub record HandsOut (o : Opening) (cs : List Call) (t : List ℕ) (x : HandOut) : Type 0 where
  pub framing : by_eof o ≡ false
  pub header : Header
  pub reads : reading_of o t ≡ Readable header
  pub other : turns header (last_run o cs) ≡ true
  pub unmarked : closed o (last_run o cs) ≡ false
  pub sound : fault o (frame_of o (last_run o cs)) ≡ None
  pub some : length (data_of (frame_of o (last_run o cs))) ≡ 0 → ⊥
  pub frame : x ≡ out_of o (last_run o cs)

-- HANDED OUT IS WHOLE: the buffer's first bytes are the frame's payload bytes, in order, as many as the answer says
pub record HandedWhole (o : Opening) (cs : List Call) (x : HandOut) (buffer : List ℕ) : Type 0 where
  pub frame : x ≡ out_of o (last_run o cs)
  pub payload : take x.delivery.len buffer ≡ data_of (frame_of o (last_run o cs))
  pub size : x.delivery.len ≡ length (data_of (frame_of o (last_run o cs)))

-- NO FRAME IS PASSED OVER: a frame without fault and with data, whose run is not the last, has its mark
abbrev pub marked_in : List Seen → Bool
marked_in [] = false
marked_in (t ∷ ts) = t.marked || marked_in ts

abbrev pub HasMark : Opening → List Seen → Type 0
HasMark o r = fault o (frame_of o r) ≡ None → (length (data_of (frame_of o r)) ≡ 0 → ⊥) → marked_in r ≡ true

abbrev pub Passed : Opening → List (List Seen) → Type 0
Passed o [] = Unit {0}
Passed o (r ∷ []) = Unit {0}
Passed o (r ∷ (q ∷ rs)) = HasMark o r × Passed o (q ∷ rs)

abbrev pub MarkedBefore : Opening → List Call → Type 0
MarkedBefore o cs = Passed o (runs (readables false (events o cs)))

-- EOF FRAMING, with D1 set: there are no marks, a transfer closes its frame by EOF alone, a frame is complete if it has one, wherever its run stands, and what is unreadable or lost after a
-- transfer of it is a gap where that one has no EOF
abbrev pub Unmarked : List Call → Type 0
Unmarked [] = Unit {0}
Unmarked (Call.transfer t ∷ cs) = Unmarked cs
Unmarked (Call.lost ∷ cs) = Unmarked cs
Unmarked (Call.handed ∷ cs) = ⊥
Unmarked (Call.close ∷ cs) = Unmarked cs

abbrev pub ByEof : Opening → List Seen → Type 0
ByEof o [] = Unit {0}
ByEof o (t ∷ ts) = (closes o t ≡ t.header.eof) × ByEof o ts

pub record EofFraming (o : Opening) (cs : List Call) : Type 0 where
  pub none : Unmarked cs
  pub closing : ByEof o (readables false (events o cs))
  pub ending : (last : Bool) (ts : List Seen) → complete o last ts ≡ closed o ts
  pub gaps : (t : Seen) → gap_after o t ≡ (not t.header.eof && t.after)
