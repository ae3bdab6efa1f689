-- What each `return` asks: the laws of what is told of a call, one for each way through the code.
use Rattle.std.specs.Prelude.{None, Option, Some, Err, Ok}
use Rattle.session_rules.specs.Options.{Ended, Stamp, Closing}
use Rattle.std.proofs.Common.{◌≡◌, ℕ, ◌+◌, ◌-◌, ◌%◌, ◌^◌, ◌≤◌, Bool, true, false, List, length, sym, refl, ◌∙◌}
use Rattle.rules.specs.IfElse.{said-yes, said-no}
use Rattle.sizes.specs.declared.Opening.{Opening}
use Rattle.session_rules.specs.declared.Header.{Header}
use Rattle.session_rules.specs.declared.Reading.{Reading}
use Rattle.session_rules.specs.Transfer.{reading_of}
use Rattle.session_rules.proofs.Readings.{readable-fits}
use Rattle.session_rules.specs.declared.Reason.{Reason}
use Rattle.session_rules.specs.declared.Run.{Run}
use Rattle.session_rules.specs.declared.Phase.{Phase}
use Rattle.session_rules.specs.declared.Phase.TheVariants.{Under}
use Rattle.session_rules.specs.declared.Fate.{Fate}
use Rattle.session_rules.specs.declared.Delivery.{Delivery}
use Rattle.session_rules.specs.declared.HandOut.{HandOut}
use Rattle.session_rules.specs.declared.Answer.{Answer}
use Rattle.std.specs.Option.{option_or}
use mathlib.Core.Bool.{beq}
use Rattle.frames.proofs.Choices.{or-earlier, beq-same}
use Rattle.session_rules.specs.Turns.{same_of}
use Rattle.session_rules.specs.declared.Rest.{Rest}
use Rattle.session_rules.specs.declared.Outcome.{Outcome}
use Rattle.endings.specs.declared.How.{How}
use Rattle.endings.specs.declared.Ending.{Ending}
use Rattle.endings.specs.Endings.{ending_as}
use Rattle.endings.specs.Inner.{tell_ended, bytes_before, stamp_before, dropped_as, tell_dropped, how_out, tell_fate, none_told, tell_taken, tell_closed}

-- ---- a frame under way that was ended
pub ended-under : (ph : Phase) (e : Ended) (w : Reason) (r : Run) → e ≡ Some w → ph ≡ Under r
    → Some (ending_as (How.Dropped w) r.bytes r.stamp) ≡ tell_ended ph e
ended-under ph e w r p q = rw (p, q)

-- ---- the frame that a transfer joins
module _ (ph : Phase) (f : Bool) (r : Run) (p : ph ≡ Under r) where
  pub bytes_on : beq r.fid f ≡ true → r.bytes ≡ bytes_before ph f
  bytes_on y = rw p (said-yes _ (same_of r.fid f) _ _ _ (beq-same r.fid f) y refl)

  pub bytes-off : beq r.fid f ≡ false → 0 ≡ bytes_before ph f
  bytes-off y = rw p (said-no _ (same_of r.fid f) _ _ _ (beq-same r.fid f) y refl)

  pub stamp-on : beq r.fid f ≡ true → r.stamp ≡ stamp_before ph f
  stamp-on y = rw p (said-yes _ (same_of r.fid f) _ _ _ (beq-same r.fid f) y refl)

  pub stamp-off : beq r.fid f ≡ false → None ≡ stamp_before ph f
  stamp-off y = rw p (said-no _ (same_of r.fid f) _ _ _ (beq-same r.fid f) y refl)

pub dropped-as : (ph : Phase) (h : Header) (n : ℕ) (w : Reason) (a k : ℕ) (b s : Stamp) → a ≡ bytes_before ph h.fid → b ≡ stamp_before ph h.fid
    → k ≡ (a + n) % 2 ^ 64 → s ≡ option_or b h.stamp → Some (ending_as (How.Dropped w) k s) ≡ dropped_as ph h n w
dropped-as ph h n w a k b s p q e d = rw (e, d, or-earlier b h.stamp, p, q)

-- ---- the transfer's own frame
module _ (x y : Reading) (ph : Phase) (m : ℕ) (w : Reason) (e : x ≡ y) where
  pub idle-none : x ≡ Reading.Idle → None ≡ tell_dropped y ph m w
  idle-none p = rw (← e, p)

  pub unreadable-none : (k : ℕ) → x ≡ Reading.Unreadable k → None ≡ tell_dropped y ph m w
  unreadable-none k p = rw (← e, p)

  pub readable-told : (h : Header) (z : Option Ending) → x ≡ Reading.Readable h → z ≡ dropped_as ph h (m - h.len) w → z ≡ tell_dropped y ph m w
  readable-told h z p q = rw (← e, p) q

pub header-inside : (o : Opening) (t : List ℕ) (x : Reading) (h : Header) → x ≡ reading_of o t → x ≡ Reading.Readable h → h.len ≤ length t
header-inside o t x h e p = (readable-fits o t h (sym e ∙ p)).inside

module _ (b : Bool) (d : Delivery) where
  pub out-still : b ≡ true → Some (ending_as How.Still d.len d.stamp) ≡ how_out b d
  out-still e = rw e

  pub out-delivered : b ≡ false → Some (ending_as How.Delivered d.len d.stamp) ≡ how_out b d
  out-delivered e = rw e

module _ (x : Reading) (ph : Phase) (m : ℕ) (f : Fate) (z : Option Ending) where
  pub fate-delivered : (d : Delivery) → f ≡ Fate.Delivered d → z ≡ how_out false d → z ≡ tell_fate x ph m f
  fate-delivered d p q = rw p q

  pub fate-still : (d : Delivery) → f ≡ Fate.Still d → z ≡ how_out true d → z ≡ tell_fate x ph m f
  fate-still d p q = rw p q

  pub fate-dropped : (w : Reason) → f ≡ Fate.Dropped w → z ≡ tell_dropped x ph m w → z ≡ tell_fate x ph m f
  fate-dropped w p q = rw p q

-- ---- a take, and close
module _ (s : Rest) (t : List ℕ) (a : Outcome) where
  pub taken_refused : (k : ℕ) → a ≡ Outcome.Refused k → none_told ≡ tell_taken s t a
  taken_refused k p = rw p

  pub taken-told : (x : Answer) (y z : Option Ending) → a ≡ Outcome.Taken x → y ≡ tell_ended s.track.phase x.ended
      → z ≡ tell_fate (reading_of s.opening t) s.track.phase (length t) x.fate → record { first = y; second = z } ≡ tell_taken s t a
  taken-told x y z p q r = rw (p, q, r)

  pub handed-told : (x : HandOut) (y : Option Ending) → a ≡ Outcome.Handed x → y ≡ how_out x.still x.delivery → record { first = y; second = None } ≡ tell_taken s t a
  handed-told x y p q = rw (p, q)

module _ (s : Rest) (a : Closing) where
  pub closed-refused : (k : ℕ) → a ≡ Err k → none_told ≡ tell_closed s a
  closed-refused k p = rw p

  pub closed-told : (e : Ended) (y : Option Ending) → a ≡ Ok e → y ≡ tell_ended s.track.phase e → record { first = y; second = None } ≡ tell_closed s a
  closed-told e y p q = rw (p, q)
