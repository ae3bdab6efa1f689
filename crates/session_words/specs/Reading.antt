-- WHAT WORDS ARE A SESSION'S: those that the rest which they are read as is laid out in. So each rest has one form, and all else is told by 54 or 50 (proofs/Back: `read_back`,
-- `read_only_lem`).
use Rattle.session_rules.specs.Options.{Fault, Layer, Stamp}
use Rattle.std.specs.Prelude.{ℕ, ◌-◌, ◌/◌, ◌%◌, ◌≡◌, Bool, true, not, List, get_or, replicate, eqb, None, Some}
use Rattle.rules.specs.IfElse.{if_else}
use Rattle.rules.specs.Numbered.{any_below}
use Rattle.sizes.specs.declared.HeaderKind.{HeaderKind}
use Rattle.sizes.specs.declared.HeaderKind.TheVariants.{Old, Vp8}
use Rattle.session_rules.specs.declared.Reason.TheVariants.{Gap, Error, Clock, Mixed, Long, Cut, Empty}
use Rattle.session_rules.specs.declared.Run.{Run}
use Rattle.session_rules.specs.declared.Phase.{Phase}
use Rattle.session_rules.specs.declared.Phase.TheVariants.{Fresh, Under, Past}
use Rattle.session_rules.specs.declared.Rest.{Rest}
use Rattle.session_words.specs.declared.Read.{Read}
use Rattle.session_words.specs.declared.Read.TheVariants.{Broken, Laid}
use Rattle.session_words.specs.Words.{word_count, spare_count, words_of}

-- as a number of so few: where there are more, one of them
unfoldable pub stamp_in : ℕ → Stamp
stamp_in x = if_else (eqb x 0) None (Some ((x - 1) % 4294967296))

unfoldable pub layer_in : ℕ → Layer
layer_in x = if_else (eqb x 0) None (Some ((x - 1) % 65536))

unfoldable pub fault_in : ℕ → Fault
fault_in x =
    if_else (eqb x 0) None
    (if_else (eqb x 1) (Some Gap)
    (if_else (eqb x 2) (Some Error)
    (if_else (eqb x 3) (Some Clock)
    (if_else (eqb x 4) (Some Mixed)
    (if_else (eqb x 5) (Some Long)
    (if_else (eqb x 6) (Some Cut) (Some Empty)))))))

unfoldable pub kind_in : ℕ → HeaderKind
kind_in x = if_else (eqb x 0) Old Vp8

unfoldable pub phase_in : ℕ → Run → Phase
phase_in x run = if_else (eqb x 0) (Under run) (if_else (eqb x 1) Fresh (Past run.fid))

abbrev pub is_one : ℕ → Bool
is_one x = eqb x 1

abbrev pub marks_in : List ℕ → ℕ
marks_in w = get_or w 12 0

abbrev pub run_in : List ℕ → Run
run_in w =
    record {
      bytes = get_or w 15 0;
      fill = get_or w 16 0;
      stamp = stamp_in (get_or w 17 0);
      fid = is_one (marks_in w % 2);
      still = is_one (marks_in w / 2 % 2);
      fault = fault_in (marks_in w / 4 % 8);
      layer = layer_in (get_or w 18 0);
    }

unfoldable pub rest_in : List ℕ → Rest
rest_in w =
    record {
      opening = record { frame = get_or w 9 0; payload = get_or w 10 0; framing = get_or w 11 0 % 256; kind = kind_in (marks_in w / 512) };
      closed = is_one (marks_in w / 256 % 2);
      taken = get_or w 13 0 % 4294967296;
      track = record { phase = phase_in (marks_in w / 32 % 4) (run_in w); gap = is_one (marks_in w / 128 % 2) };
      last = stamp_in (get_or w 14 0);
    }

abbrev pub differ_at : List ℕ → List ℕ → ℕ → Bool
differ_at w x k = not (eqb (get_or w k 0) (get_or x k 0))

-- no word is set
abbrev pub no_words : List ℕ
no_words = replicate word_count 0

-- 54: A WORD OF THE LEDGER'S REST IS NOT ZERO
unfoldable pub spare_set : List ℕ → Bool
spare_set w = any_below spare_count (differ_at w no_words)

-- 50: words in which no rest is laid out
unfoldable pub other_form : List ℕ → Bool
other_form w = any_below word_count (differ_at w (words_of (rest_in w)))

-- the rest that the words are laid out from, or the number: 54 before 50
unfoldable pub read_of : List ℕ → Read
read_of w = if_else (spare_set w) (Broken 54) (if_else (other_form w) (Broken 50) (Laid (rest_in w)))

-- what few tests say: yes, and the words are the rest's that they are read as
abbrev pub Plain : List ℕ → Bool → Type 0
Plain w b = b ≡ true → read_of w ≡ Laid (rest_in w)
