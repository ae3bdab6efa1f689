-- A TRANSFER THAT GOES ON WITH THE FRAME UNDER WAY is kept: what the call answers, makes of the session and writes.
use Rattle.std.specs.Prelude.{None, Some}
use Rattle.session_rules.specs.Options.{Fault}
use Prim.Native.Nat.{ℕ, ◌+◌, ◌-◌}
use mathlib.Core.Path.{◌≡◌, refl, sym}
use mathlib.Core.Bool.{Bool, true, false, not, ◌&&◌, true≢false}
use mathlib.Core.List.{List}
use lib.ListN.{length}
use lib.Dec.{ltb}
use borrow.Author.Tests.{leb-true, le-ltb, not-true}
use Rattle.rules.specs.IfElse.{if_else}
use Rattle.rules.specs.Numbered.{NoneOf}
use Rattle.rules.proofs.Rows.{none_row, and_first, and_second}
use Rattle.sizes.specs.declared.Opening.{Opening}
use Rattle.sizes.specs.Framing.{by_eof}
use Rattle.session_rules.specs.declared.Header.{Header}
use Rattle.session_rules.specs.declared.Reading.TheVariants.{Readable}
use Rattle.session_rules.specs.declared.Run.{Run}
use Rattle.session_rules.specs.declared.Phase.TheVariants.{Under}
use Rattle.session_rules.specs.declared.Fate.{Fate}
use Rattle.session_rules.specs.declared.Track.{Track}
use Rattle.session_rules.specs.declared.Turn.{Turn}
use Rattle.session_rules.specs.declared.Session.{Session}
use Rattle.session_rules.specs.Transfer.{reading_of}
use Rattle.session_rules.specs.Turns.{same_of, clash_of, ends_of, fault_of, join_turn, turn_of, hands_of}
use Rattle.session_rules.specs.Refusals.{take_rows}
use Rattle.session_rules.specs.Session.{read_of, took_of, took_buffer, hands_out, take_of, buffer_of, plainly}
use Rattle.going_on.specs.GoingOn.{is_sound, goes_on, went_on, kept_of, kept_buffer}

-- ---- the tests one by one
pub sound-is : (f : Fault) → is_sound f ≡ true → f ≡ None
sound-is None e = refl
sound-is (Some why) e = absurd (true≢false (sym e))

record Tests (o : Opening) (r : Run) (h : Header) (n : ℕ) : Type 0 where
  sound : r.fault ≡ None
  fid : same_of r.fid h.fid ≡ true
  still : same_of r.still h.still ≡ true
  ends : ends_of o h ≡ false
  error : h.error ≡ false
  clash : clash_of r.stamp h.stamp ≡ false
  fits : ltb o.frame (r.bytes + n) ≡ false

tests : (o : Opening) (r : Run) (h : Header) (n : ℕ) → goes_on o r h n ≡ true → Tests o r h n
unfolding goes_on
tests o r h n e0 =
    let e1 = and_second (is_sound r.fault) _ e0 in
    let e2 = and_second (same_of r.fid h.fid) _ e1 in
    let e3 = and_second (same_of r.still h.still) _ e2 in
    let e4 = and_second (not (ends_of o h)) _ e3 in
    let e5 = and_second (not h.error) _ e4 in
    let e6 = and_second (not (clash_of r.stamp h.stamp)) _ e5 in
    record {
      sound = sound-is r.fault (and_first _ _ e0);
      fid = and_first _ _ e1;
      still = and_first _ _ e2;
      ends = not-true _ (and_first _ _ e3);
      error = not-true _ (and_first _ _ e4);
      clash = not-true _ (and_first _ _ e5);
      fits = le-ltb o.frame (r.bytes + n) (leb-true (r.bytes + n) o.frame e6);
    }

-- ---- the turn
kept_turn : Run → Header → ℕ → Turn
kept_turn r h n =
    record {
      track = record { phase = Under (went_on r h n); gap = false };
      answer = plainly Fate.Kept;
      gone = 0;
      bytes = r.bytes + n;
      at = r.fill;
      len = n;
    }

module _ (o : Opening) (r : Run) (h : Header) (n : ℕ) (g : Tests o r h n) where
  no-fault : fault_of o r h n ≡ None
  no-fault = rw (g.sound, g.error, g.clash, g.still, g.fits)

  joins : join_turn o r h n None 0 ≡ kept_turn r h n
  unfolding kept_turn
  joins = rw (no-fault, g.ends)

  turns : (t : Track) → t.phase ≡ Under r → turn_of o t h n ≡ kept_turn r h n
  unfolding turn_of if_else
  turns t e = rw (e, g.fid) joins

  and-false : (b : Bool) → (b && false) ≡ false
  and-false true = refl
  and-false false = refl

  hands-nothing : (t : Track) → t.phase ≡ Under r → hands_of o t h ≡ false
  unfolding hands_of
  hands-nothing t e = rw (e, g.fid) (and-false (not (by_eof o)))

-- ---- the call
module _ (s : Session) (t : List ℕ) (r : Run) (h : Header) (under : s.rest.track.phase ≡ Under r) (read : reading_of s.rest.opening t ≡ Readable h)
    (on : goes_on s.rest.opening r h (length t - h.len) ≡ true) where
  given : Tests s.rest.opening r h (length t - h.len)
  given = tests s.rest.opening r h (length t - h.len) on

  no-hand-out : hands_out s t ≡ false
  unfolding hands_out
  no-hand-out = rw read (hands-nothing s.rest.opening r h (length t - h.len) given s.rest.track under)

  turned_on : turn_of s.rest.opening s.rest.track h (length t - h.len) ≡ kept_turn r h (length t - h.len)
  turned_on = turns s.rest.opening r h (length t - h.len) given s.rest.track under

  -- KEPT
  pub goes_on_lem : (room : ℕ) → NoneOf (take_rows s room (length t)) → take_of s room t ≡ kept_of s r h (length t - h.len)
  unfolding take_of took_of read_of kept_turn
  goes_on_lem room free = rw (none_row (take_rows s room (length t)) free, no-hand-out, read, turned_on)

  -- and its data is written straight after the frame's earlier data
  pub goes-on-buffer : (buffer : List ℕ) → NoneOf (take_rows s (length buffer) (length t)) → buffer_of s buffer t ≡ kept_buffer r h buffer t
  unfolding buffer_of took_buffer kept_turn
  goes-on-buffer buffer free = rw (none_row (take_rows s (length buffer) (length t)) free, no-hand-out, read, turned_on)
