-- A session record as C keeps it: sixteen words, of old headers, and the ledger's numbers. The last two words are what a call answers.
use Rattle.session_rules.specs.Options.{Fault, Stamp}
use Rattle.std.specs.Prelude.{ℕ, ◌%◌, Bool, true, false, List, [], ◌∷◌, get_or, eqb, ltb, None, Some}
use Rattle.rules.specs.IfElse.{if_else}
use Rattle.sizes.specs.declared.HeaderKind.TheVariants.{Old}
use Rattle.session_rules.specs.declared.Reason.{Reason}
use Rattle.session_rules.specs.declared.Reason.TheVariants.{Gap, Error, Clock, Mixed, Long, Cut, Empty}
use Rattle.session_rules.specs.declared.Run.{Run}
use Rattle.session_rules.specs.declared.Phase.{Phase}
use Rattle.session_rules.specs.declared.Phase.TheVariants.{Fresh, Under, Past}
use Rattle.session_rules.specs.declared.Fate.{Fate}
use Rattle.session_rules.specs.declared.Fate.TheVariants.{Idle, Kept, Stray, Delivered, Still, Dropped, Unreadable}
use Rattle.session_rules.specs.declared.Rest.{Rest}
use Rattle.session_rules.specs.declared.Session.{Session}
use Rattle.session_rules.specs.declared.Outcome.{Outcome}
use Rattle.session_rules.specs.declared.Outcome.TheVariants.{Refused, Taken, Handed}
use Rattle.session_rules.specs.declared.Taken as taken

-- no stamp
abbrev pub absent : ℕ
absent = 4294967296

abbrev pub one_of : Bool → ℕ
one_of true = 1
one_of false = 0

unfoldable pub stamp_in : ℕ → Stamp
stamp_in x = if_else (ltb x absent) (Some x) None

abbrev pub stamp_word : Stamp → ℕ
stamp_word (Some x) = x
stamp_word None = absent

unfoldable pub fault_in : ℕ → Fault
fault_in x =
    if_else (eqb x 0) None
    (if_else (eqb x 1) (Some Gap)
    (if_else (eqb x 2) (Some Error)
    (if_else (eqb x 3) (Some Clock)
    (if_else (eqb x 4) (Some Mixed)
    (if_else (eqb x 5) (Some Long)
    (if_else (eqb x 6) (Some Cut) (Some Empty)))))))

abbrev pub reason_word : Reason → ℕ
reason_word Gap = 1
reason_word Error = 2
reason_word Clock = 3
reason_word Mixed = 4
reason_word Long = 5
reason_word Cut = 6
reason_word Empty = 7

abbrev pub fault_word : Fault → ℕ
fault_word None = 0
fault_word (Some why) = reason_word why

unfoldable pub phase_in : ℕ → Run → Phase
phase_in x run = if_else (eqb x 0) Fresh (if_else (eqb x 1) (Under run) (Past run.fid))

abbrev pub phase_word : Phase → ℕ
phase_word Fresh = 0
phase_word (Under run) = 1
phase_word (Past fid) = 2

-- no frame under way, with the FID of the run
abbrev pub no_run : Bool → Run
no_run fid = record { bytes = 0; fill = 0; stamp = None; fid = fid; still = false; fault = None; layer = None }

abbrev pub run_of : Phase → Run
run_of Fresh = no_run false
run_of (Under run) = run
run_of (Past fid) = no_run fid

-- the transfer's fate
abbrev pub fate_word : Fate → ℕ
fate_word Idle = 1
fate_word Kept = 2
fate_word Stray = 3
fate_word (Delivered d) = 4
fate_word (Still d) = 5
fate_word (Dropped why) = 6
fate_word (Unreadable k) = 7

abbrev pub fate_length : Fate → ℕ
fate_length Idle = 0
fate_length Kept = 0
fate_length Stray = 0
fate_length (Delivered d) = d.len
fate_length (Still d) = d.len
fate_length (Dropped why) = 0
fate_length (Unreadable k) = 0

-- a refusal's number; or the transfer's fate, and 8 where the frame under way is handed out before it
abbrev pub told_of : Outcome → ℕ
told_of (Refused k) = k
told_of (Taken a) = fate_word a.fate
told_of (Handed h) = 8

-- the length of a frame that is handed over
abbrev pub length_of : Outcome → ℕ
length_of (Refused k) = 0
length_of (Taken a) = fate_length a.fate
length_of (Handed h) = h.delivery.len

abbrev pub run_in : List ℕ → Run
run_in w =
    record {
      bytes = get_or w 9 0;
      fill = get_or w 10 0;
      stamp = stamp_in (get_or w 11 0);
      fid = eqb (get_or w 8 0) 1;
      still = eqb (get_or w 12 0) 1;
      fault = fault_in (get_or w 13 0);
      layer = None;
    }

abbrev pub rest_in : List ℕ → Rest
rest_in w =
    record {
      opening = record { frame = get_or w 0 0; payload = get_or w 1 0; framing = get_or w 2 0 % 256; kind = Old };
      closed = eqb (get_or w 3 0) 1;
      taken = get_or w 4 0 % 4294967296;
      track = record { phase = phase_in (get_or w 7 0) (run_in w); gap = eqb (get_or w 5 0) 1 };
      last = stamp_in (get_or w 6 0);
    }

abbrev pub session_in : List ℕ → List ℕ → Session
session_in w numbers = record { rest = rest_in w; numbers = numbers }

abbrev pub under_way : Rest → Run
under_way r = run_of r.track.phase

abbrev pub words_of : Rest → Outcome → List ℕ
words_of r o =
    r.opening.frame
    ∷ r.opening.payload
    ∷ r.opening.framing
    ∷ one_of r.closed
    ∷ r.taken
    ∷ one_of r.track.gap
    ∷ stamp_word r.last
    ∷ phase_word r.track.phase
    ∷ one_of (under_way r).fid
    ∷ (under_way r).bytes
    ∷ (under_way r).fill
    ∷ stamp_word (under_way r).stamp
    ∷ one_of (under_way r).still
    ∷ fault_word (under_way r).fault
    ∷ told_of o
    ∷ length_of o
    ∷ []

-- what a call leaves in the words
abbrev pub answered_in : taken.Taken → List ℕ
answered_in x = words_of x.session.rest x.outcome
