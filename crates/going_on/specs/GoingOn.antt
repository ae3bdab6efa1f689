-- Document 01, "Payload transfers": "Kept means that the frame is still under way". A transfer that goes on with the frame under way, and what is answered to it: one case of
-- `take_of` (session_rules/specs/Session), which proofs/GoingOn.antt shows. It has both kinds of header and both framings.
use Rattle.session_rules.specs.Options.{Fault}
use Rattle.std.specs.Prelude.{ℕ, ◌+◌, ◌-◌, Bool, true, false, not, ◌&&◌, List, length, drop, leb, None, Some}
use Rattle.std.proofs.Math.Seq.{paste}
use Rattle.sizes.specs.declared.Opening.{Opening}
use Rattle.session_rules.specs.declared.Header.{Header}
use Rattle.session_rules.specs.declared.Run.{Run}
use Rattle.session_rules.specs.declared.Phase.TheVariants.{Under}
use Rattle.session_rules.specs.declared.Fate.{Fate}
use Rattle.session_rules.specs.declared.Session.{Session}
use Rattle.session_rules.specs.declared.Outcome.{Outcome}
use Rattle.session_rules.specs.declared.Taken.{Taken}
use Rattle.session_rules.specs.Turns.{same_of, clash_of, earlier_of, later_of, ends_of}
use Rattle.session_rules.specs.Entry.{Entry}
use Rattle.session_rules.specs.Ledger.{post_of}
use Rattle.session_rules.specs.Refusals.{posted_of}
use Rattle.session_rules.specs.Session.{counted_of, plainly}

abbrev pub is_sound : Fault → Bool
is_sound None = true
is_sound (Some why) = false

-- THE TESTS: a transfer with the header h and n bytes of data goes on with the frame r. The frame has no fault; the FID and the still bit are the frame's; no EOF
-- that counts, no error, no stamp that differs from the frame's; and the data is within the frame size.
unfoldable pub goes_on : Opening → Run → Header → ℕ → Bool
goes_on o r h n =
    is_sound r.fault
    && (same_of r.fid h.fid
    && (same_of r.still h.still
    && (not (ends_of o h) && (not h.error && (not (clash_of r.stamp h.stamp) && leb (r.bytes + n) o.frame)))))

-- the frame with that transfer: n bytes more, its first stamp and its last layer
abbrev pub went_on : Run → Header → ℕ → Run
went_on r h n =
    record {
      fid = r.fid;
      still = r.still;
      fault = None;
      bytes = r.bytes + n;
      fill = r.fill + n;
      stamp = earlier_of r.stamp h.stamp;
      layer = later_of r.layer h.layer;
    }

-- KEPT: nothing was ended, one transfer more is taken, and the header is entered, and nothing else
abbrev pub kept_of : Session → Run → Header → ℕ → Taken
kept_of s r h n =
    record {
      session = counted_of s (record { phase = Under (went_on r h n); gap = false }) (post_of (posted_of s) (Entry.Headers h.len));
      outcome = Outcome.Taken (plainly Fate.Kept);
    }

-- its data stands straight after the frame's earlier data
abbrev pub kept_buffer : Run → Header → List ℕ → List ℕ → List ℕ
kept_buffer r h buffer t = paste buffer r.fill (drop h.len t) (length t - h.len)
