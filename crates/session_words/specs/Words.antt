-- THE WORDS OF A SESSION, as a host in C keeps it beside the ledger's numbers: nine that are left of the ledger's forty (document 02, Eight: rest zero), and ten of its state.
use Rattle.session_rules.specs.Options.{Fault, Layer, Stamp}
use Rattle.std.specs.Prelude.{ℕ, ◌+◌, ◌*◌, Bool, true, false, List, [], ◌∷◌, ◌++◌, replicate, None, Some}
use Rattle.sizes.specs.declared.HeaderKind.{HeaderKind}
use Rattle.sizes.specs.declared.HeaderKind.TheVariants.{Old, Vp8}
use Rattle.session_rules.specs.declared.Reason.{Reason}
use Rattle.session_rules.specs.declared.Reason.TheVariants.{Gap, Error, Clock, Mixed, Long, Cut, Empty}
use Rattle.session_rules.specs.declared.Run.{Run}
use Rattle.session_rules.specs.declared.Phase.{Phase}
use Rattle.session_rules.specs.declared.Phase.TheVariants.{Fresh, Under, Past}
use Rattle.session_rules.specs.declared.Rest.{Rest}

-- how many words there are, and how many of them are the ledger's rest
abbrev pub word_count : ℕ
word_count = 19

abbrev pub spare_count : ℕ
spare_count = 9

abbrev pub one_of : Bool → ℕ
one_of true = 1
one_of false = 0

-- 0 for none, else one more than it
abbrev pub stamp_word : Stamp → ℕ
stamp_word None = 0
stamp_word (Some x) = x + 1

abbrev pub layer_word : Layer → ℕ
layer_word None = 0
layer_word (Some x) = x + 1

-- reasons in the order of the first fault that counts, then the two that end a frame without one; 0 is none
abbrev pub reason_word : Reason → ℕ
reason_word Gap = 1
reason_word Error = 2
reason_word Clock = 3
reason_word Mixed = 4
reason_word Long = 5
reason_word Cut = 6
reason_word Empty = 7

abbrev pub fault_word : Fault → ℕ
fault_word None = 0
fault_word (Some why) = reason_word why

abbrev pub kind_word : HeaderKind → ℕ
kind_word Old = 0
kind_word Vp8 = 1

abbrev pub phase_word : Phase → ℕ
phase_word (Under run) = 0
phase_word Fresh = 1
phase_word (Past fid) = 2

-- no frame under way, with the FID of the run: all else is 0
abbrev pub no_run : Bool → Run
no_run fid = record { bytes = 0; fill = 0; stamp = None; fid = fid; still = false; fault = None; layer = None }

abbrev pub run_of : Phase → Run
run_of Fresh = no_run false
run_of (Under run) = run
run_of (Past fid) = no_run fid

abbrev pub under_way : Rest → Run
under_way r = run_of r.track.phase

-- what is one of few, in one word: below 4 while a frame without fault is under way in an open session of old headers, with no gap
abbrev pub marks_of : Rest → ℕ
marks_of r =
    one_of (under_way r).fid
    + 2 * one_of (under_way r).still
    + 4 * fault_word (under_way r).fault
    + 32 * phase_word r.track.phase
    + 128 * one_of r.track.gap
    + 256 * one_of r.closed
    + 512 * kind_word r.opening.kind

abbrev pub state_of : Rest → List ℕ
state_of r =
    r.opening.frame
    ∷ r.opening.payload
    ∷ r.opening.framing
    ∷ marks_of r
    ∷ r.taken
    ∷ stamp_word r.last
    ∷ (under_way r).bytes
    ∷ (under_way r).fill
    ∷ stamp_word (under_way r).stamp
    ∷ layer_word (under_way r).layer
    ∷ []

unfoldable pub words_of : Rest → List ℕ
words_of r = replicate spare_count 0 ++ state_of r
