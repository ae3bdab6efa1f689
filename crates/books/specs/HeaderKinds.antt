-- Document 02, Twelve: what is demanded of each kind of header, the words of specs/Statement.antt. The frame rule itself names no kind.
use Rattle.session_rules.specs.Options.{Ended, Closing}
use Rattle.std.specs.Prelude.{◌≡◌, false, List, map, get_or, None, Some, Err, Ok}
use Rattle.sizes.specs.declared.Opening.{Opening}
use Rattle.session_rules.specs.declared.Reason.TheVariants.{Mixed}
use Rattle.session_rules.specs.declared.Fate.{Fate}
use Rattle.session_rules.specs.declared.HandOut.{HandOut}
use Rattle.session_rules.specs.declared.Ledger.{Ledger}
use Rattle.session_rules.specs.Accounts.{untimed_at}
use Rattle.session_rules.specs.Entry.{Entry}
use Rattle.session_rules.specs.declared.Outcome.{Outcome}
use Rattle.session_rules.specs.Call.{Call}
use Rattle.books.specs.Rule.{entry_of, frames_by, untimed}
use Rattle.books.specs.Demands.{EachEntry}

-- NO LAYER IS REPORTED: no delivered frame and no still of the list has one
abbrev pub NoLayer : Entry → Type 0
NoLayer (Entry.Delivered d) = d.layer ≡ None
NoLayer (Entry.Still d) = d.layer ≡ None
NoLayer (Entry.Dropped w n) = Unit {0}
NoLayer (Entry.UnderWay n) = Unit {0}
NoLayer (Entry.Stray n) = Unit {0}
NoLayer (Entry.Unreadable n) = Unit {0}
NoLayer (Entry.Headers n) = Unit {0}
NoLayer Entry.Lost = Unit {0}
NoLayer Entry.Idle = Unit {0}

abbrev pub NoLayers : Opening → List Call → Type 0
NoLayers o cs = EachEntry NoLayer (map entry_of (frames_by o cs))

-- NONE IS UNTIMED: no delivered frame of the list is without a stamp, and the ledger's number is 0
abbrev pub Timed : Entry → Type 0
Timed e = untimed e ≡ 0

pub record AllTimed (o : Opening) (cs : List Call) (l : Ledger) : Type 0 where
  pub frames : EachEntry Timed (map entry_of (frames_by o cs))
  pub number : get_or l.numbers untimed_at 0 ≡ 0

-- what holds of a take's outcome: of the frame that it hands out; or of the frame that it ends, and of the transfer's own fate
abbrev pub OutcomeHas : (HandOut → Type 0) → (Ended → Type 0) → (Fate → Type 0) → Outcome → Type 0
OutcomeHas A E B (Outcome.Refused k) = Unit {0}
OutcomeHas A E B (Outcome.Taken a) = E a.ended × B a.fate
OutcomeHas A E B (Outcome.Handed x) = A x

-- no layer
abbrev pub FateNoLayer : Fate → Type 0
FateNoLayer (Fate.Delivered d) = d.layer ≡ None
FateNoLayer (Fate.Still d) = d.layer ≡ None
FateNoLayer (Fate.Dropped w) = Unit {0}
FateNoLayer Fate.Idle = Unit {0}
FateNoLayer Fate.Kept = Unit {0}
FateNoLayer Fate.Stray = Unit {0}
FateNoLayer (Fate.Unreadable k) = Unit {0}

abbrev pub ReportsNone : Outcome → Type 0
ReportsNone x = OutcomeHas (λ (f : HandOut). f.delivery.layer ≡ None) (λ (e : Ended). Unit {0}) FateNoLayer x

-- no still, and no mixed frame
abbrev pub FateNoStill : Fate → Type 0
FateNoStill (Fate.Still d) = ⊥
FateNoStill (Fate.Dropped w) = w ≡ Mixed → ⊥
FateNoStill (Fate.Delivered d) = Unit {0}
FateNoStill Fate.Idle = Unit {0}
FateNoStill Fate.Kept = Unit {0}
FateNoStill Fate.Stray = Unit {0}
FateNoStill (Fate.Unreadable k) = Unit {0}

abbrev pub EndedNotMixed : Ended → Type 0
EndedNotMixed None = Unit {0}
EndedNotMixed (Some w) = w ≡ Mixed → ⊥

abbrev pub ClosesNoStill : Closing → Type 0
ClosesNoStill (Err k) = Unit {0}
ClosesNoStill (Ok e) = EndedNotMixed e

abbrev pub AnswersNoStill : Outcome → Type 0
AnswersNoStill x = OutcomeHas (λ (f : HandOut). f.still ≡ false) EndedNotMixed FateNoStill x
