-- Where a transfer's data is written lies within the frame, and stays so from call to call.
use Rattle.std.specs.Prelude.{None, Some}
use Rattle.session_rules.specs.Options.{Ended, Fault, Layer, Stamp}
use Prim.Native.Nat.{ℕ, ◌+◌, ◌≤◌}
use mathlib.Core.Path.{◌≡◌, refl}
use mathlib.Core.Bool.{Bool, true, false, true≢false}
use native.Mathlib.Omega.{arith}
use lib.Dec.{ltb, eqb}
use borrow.Author.Tests.{ltb-false}
use Rattle.rules.specs.IfElse.{if_else-all}
use Rattle.sizes.specs.declared.Opening.{Opening}
use Rattle.session_rules.specs.declared.Header.{Header}
use Rattle.session_rules.specs.declared.Reason.{Reason}
use Rattle.session_rules.specs.declared.Reason.TheVariants.{Gap, Error, Clock, Mixed, Long}
use Rattle.session_rules.specs.declared.Run.{Run}
use Rattle.session_rules.specs.declared.Phase.{Phase}
use Rattle.session_rules.specs.declared.Phase.TheVariants.{Fresh, Under, Past}
use Rattle.session_rules.specs.declared.Track.{Track}
use Rattle.session_rules.specs.declared.Fate.{Fate}
use Rattle.session_rules.specs.declared.Fate.TheVariants.{Idle, Kept, Stray, Delivered, Still, Dropped, Unreadable}
use Rattle.session_rules.specs.declared.Turn.{Turn}
use Rattle.session_rules.specs.Track.{under_bytes, FilledBy, Filled}
use Rattle.session_rules.specs.Turns.{first_of, clash_of, why_of, same_of, mixed_of, filled_of, written_of, begun_of, fault_of, joined_of, complete_of, ends_of, turned_why, fate_of, phase_of, join_turn, stray_turn, turn_by, turn_of, out_by, out_of, spoilt_by, spoilt_of, closed_by, closed_of}

-- ---- no fault now: none before, and none by this
first-sound : (f : Fault) (bad : Bool) (why : Reason) → first_of f bad why ≡ None → (f ≡ None) × (bad ≡ false)
first-sound (Some w) bad why e = let z : ◌≡◌ {A = ℕ} 0 1 = cc in absurd (omega arith)
first-sound None true why e = let z : ◌≡◌ {A = ℕ} 0 1 = cc in absurd (omega arith)
first-sound None false why e = (refl, refl)

module _ (o : Opening) (r : Run) (h : Header) (n : ℕ) where
  -- a frame without fault had none before, and is no longer than the frame size
  pub sound-before : fault_of o r h n ≡ None → (r.fault ≡ None) × (r.bytes + n ≤ o.frame)
  sound-before e =
      let c : Fault = first_of (first_of r.fault h.error Error) (clash_of r.stamp h.stamp) Clock in
      let l = first-sound (first_of c (mixed_of r h) Mixed) (ltb o.frame (r.bytes + n)) Long e in
      let m = first-sound c (mixed_of r h) Mixed l.0 in
      let k = first-sound (first_of r.fault h.error Error) (clash_of r.stamp h.stamp) Clock m.0 in
      ((first-sound r.fault h.error Error k.0).0, ltb-false o.frame (r.bytes + n) l.1)

  module _ (q : Filled o r) where
    writes : (f : Fault) → fault_of o r h n ≡ f → r.fill + written_of f n ≤ o.frame
    writes None e = let s = sound-before e in let w = q.whole s.0 in omega arith
    writes (Some w) e = omega (arith, q.within)

    fills : (f : Fault) → fault_of o r h n ≡ f → filled_of f r.fill n ≤ o.frame
    fills None e = let s = sound-before e in let w = q.whole s.0 in omega arith
    fills (Some w) e = omega (arith, q.within)

    whole : (f : Fault) → fault_of o r h n ≡ f → f ≡ None → filled_of f r.fill n ≡ r.bytes + n
    whole None e g = let w = q.whole (sound-before e).0 in omega arith
    whole (Some w) e g = let z : ◌≡◌ {A = ℕ} 0 1 = cc in absurd (omega arith)

    -- what a transfer that joins writes lies within the frame
    pub join-inside : r.fill + written_of (fault_of o r h n) n ≤ o.frame
    join-inside = writes (fault_of o r h n) refl

    pub join-filled : Filled o (joined_of o r h n)
    join-filled = record { within = fills (fault_of o r h n) refl; whole = whole (fault_of o r h n) refl }

pub begun-filled : (o : Opening) (gap fid still : Bool) → Filled o (begun_of gap fid still)
begun-filled o gap fid still = record { within = omega arith; whole = λ e. refl }

-- ---- a readable transfer
phase-filled : (o : Opening) (eof : Bool) (r : Run) → Filled o r → FilledBy o (phase_of eof r)
phase-filled o true r q = tt
phase-filled o false r q = q

-- the length of a delivered frame or still is its bytes
abbrev pub LengthOf : Fate → ℕ → Type 0
LengthOf Idle n = Unit {0}
LengthOf Kept n = Unit {0}
LengthOf Stray n = Unit {0}
LengthOf (Delivered d) n = d.len ≡ n
LengthOf (Still d) n = d.len ≡ n
LengthOf (Dropped why) n = Unit {0}
LengthOf (Unreadable k) n = Unit {0}

-- what a readable transfer with n bytes of data leads to, from the phase p
pub record Sits (o : Opening) (p : Phase) (n : ℕ) (x : Turn) : Type 0 where
  -- what is written is no more than its data and lies within the frame
  pub short : x.len ≤ n
  pub inside : x.at + x.len ≤ o.frame
  -- no more bytes are entered than have come
  pub gone : x.gone ≤ under_bytes p
  pub bytes : x.bytes ≤ under_bytes p + n
  pub long : LengthOf x.answer.fate x.bytes
  -- and the next frame under way is filled as this one
  pub filled : FilledBy o x.track.phase

complete-long : (f : Fault) (n : ℕ) (s : Stamp) (l : Layer) (b : Bool) → LengthOf (complete_of f n s l b) n
complete-long (Some why) n s l b = tt
complete-long None n s l b = if_else-all (λ x. LengthOf x n) (eqb n 0) _ _ tt (if_else-all (λ x. LengthOf x n) b _ _ refl refl)

fate-long : (eof : Bool) (r : Run) → LengthOf (fate_of eof r) r.bytes
fate-long true r = complete-long r.fault r.bytes r.stamp r.layer r.still
fate-long false r = tt

no_more : (f : Fault) (n : ℕ) → written_of f n ≤ n
no_more None n = omega arith
no_more (Some w) n = omega arith

module _ (o : Opening) (h : Header) (n : ℕ) where
  joins : (p : Phase) (r : Run) (e : Ended) (gone : ℕ) → Filled o r → r.bytes ≤ under_bytes p → gone ≤ under_bytes p →
      Sits o p n (join_turn o r h n e gone)
  joins p r e gone q l g =
      record {
        short = no_more (fault_of o r h n) n;
        inside = join-inside o r h n q;
        gone = g;
        bytes = omega arith;
        long = fate-long (ends_of o h) (joined_of o r h n);
        filled = phase-filled o (ends_of o h) (joined_of o r h n) (join-filled o r h n q);
      }

  begins : (p : Phase) (gap : Bool) (e : Ended) (gone : ℕ) → gone ≤ under_bytes p → Sits o p n (join_turn o (begun_of gap h.fid h.still) h n e gone)
  begins p gap e gone g = joins p (begun_of gap h.fid h.still) e gone (begun-filled o gap h.fid h.still) (omega arith) g

  strays : (p : Phase) (fid : Bool) → Sits o p n (stray_turn fid n)
  strays p fid = record { short = omega arith; inside = omega arith; gone = omega arith; bytes = omega arith; long = tt; filled = tt }

  sits : (p : Phase) (gap : Bool) → FilledBy o p → Sits o p n (turn_by p o gap h n)
  sits Fresh gap q = begins Fresh gap None 0 (omega arith)
  sits (Under r) gap q =
      if_else-all (Sits o (Under r) n) (same_of r.fid h.fid) _ _ (joins (Under r) r None 0 q (omega arith) (omega arith))
      (begins (Under r) gap (Some (why_of r.fault (turned_why o))) r.bytes (omega arith))
  sits (Past fid) gap q = if_else-all (Sits o (Past fid) n) (same_of fid h.fid) _ _ (strays (Past fid) fid)
      (begins (Past fid) gap None 0 (omega arith))

  pub turn-sits : (t : Track) → FilledBy o t.phase → Sits o t.phase n (turn_of o t h n)
  unfolding turn_of
  turn-sits t q = sits t.phase t.gap q

-- ---- an unreadable or lost transfer
not_sound : (f : Fault) (w : Reason) → first_of f true w ≡ None → ⊥
not_sound f w e = true≢false (first-sound f true w e).1

spoils : (o : Opening) (p : Phase) → FilledBy o p → FilledBy o (spoilt_by p)
spoils o Fresh q = tt
spoils o (Past fid) q = tt
spoils o (Under r) q = record { within = q.within; whole = λ e. absurd (not_sound r.fault Gap e) }

pub spoilt-filled : (o : Opening) (t : Track) → FilledBy o t.phase → FilledBy o (spoilt_of t).phase
unfolding spoilt_of
spoilt-filled o t q = spoils o t.phase q

-- ---- close
closes : (p : Phase) (gap : Bool) → (closed_by p gap).gone ≤ under_bytes p
closes Fresh gap = omega arith
closes (Past fid) gap = omega arith
closes (Under r) gap = omega arith

pub closed-gone : (t : Track) → (closed_of t).gone ≤ under_bytes t.phase
unfolding closed_of
closed-gone t = closes t.phase t.gap

-- ---- the hand-out: its length is the frame's bytes
outs : (p : Phase) (gap : Bool) → (out_by p gap).frame.delivery.len ≡ under_bytes p
outs Fresh gap = refl
outs (Past fid) gap = refl
outs (Under r) gap = refl

pub out-long : (t : Track) → (out_of t).frame.delivery.len ≡ under_bytes t.phase
unfolding out_of
out-long t = outs t.phase t.gap
