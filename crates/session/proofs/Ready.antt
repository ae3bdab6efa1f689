-- What a session that is not refused by 50, 53 or 52 is good for, call by call.
use Prim.Native.Nat.{ℕ, ◌≤◌, ◌<◌, ◌^◌}
use mathlib.Core.Path.{◌≡◌, refl, ap, ◌∙◌}
use mathlib.Core.Bool.{Bool, true, false}
use native.Mathlib.Omega.{arith}
use Rattle.session_rules.specs.declared.Header.{Header}
use Rattle.session_rules.specs.declared.Phase.{Phase}
use Rattle.session_rules.specs.declared.Phase.TheVariants.{Fresh, Under, Past}
use Rattle.session_rules.specs.declared.Fate.{Fate}
use Rattle.session_rules.specs.declared.Turn.{Turn}
use Rattle.session_rules.specs.declared.Delivery.{Delivery}
use Rattle.session_rules.specs.declared.Out.{Out}
use Rattle.session_rules.specs.Track.{under_bytes, FilledBy, handing}
use Rattle.session_rules.specs.Turns.{turn_of, out_of, Roomy}
use Rattle.frames.proofs.Bounds.{LengthOf, Sits, turn-sits, out-long}
use Rattle.ledger.specs.Inner.{fate_bytes}
use Rattle.session_rules.specs.Rule50.{transfer_most}
use Rattle.session_rules.specs.declared.Session.{Session}
use Rattle.short_way.proofs.Ready.{AbleOf}

-- ---- what a call asks of it
module _ (s : Session) (a : AbleOf s) where
  -- a frame's bytes and fill leave room for one transfer's data more
  pub roomy : Roomy s.rest.track.phase
  roomy = go s.rest.track.phase a.filled a.under
    where
      go : (p : Phase) → FilledBy s.rest.opening p → under_bytes p < 2 ^ 48 → Roomy p
      go Fresh f u = tt
      go (Past fid) f u = tt
      go (Under r) f u = (omega arith, omega (arith, f.within, a.frame.high))

  -- a readable transfer with n bytes of data
  module _ (h : Header) (n : ℕ) (x : Turn) (e : x ≡ turn_of s.rest.opening s.rest.track h n) where
    pub sits : Sits s.rest.opening s.rest.track.phase n x
    sits = rw e (turn-sits s.rest.opening h n s.rest.track a.filled)

    pub gone-few : x.gone ≤ 2 ^ 50
    gone-few = omega (arith, sits.gone, a.under)

    fate-bytes : (f : Fate) (m : ℕ) → LengthOf f m → fate_bytes f m ≤ m
    fate-bytes Fate.Idle m l = omega arith
    fate-bytes Fate.Kept m l = omega arith
    fate-bytes Fate.Stray m l = omega arith
    fate-bytes (Fate.Delivered d) m l = omega arith
    fate-bytes (Fate.Still d) m l = omega arith
    fate-bytes (Fate.Dropped why) m l = omega arith
    fate-bytes (Fate.Unreadable k) m l = omega arith

    pub fate-few : n ≤ transfer_most → fate_bytes x.answer.fate x.bytes ≤ 2 ^ 50
    fate-few q = omega (arith, fate-bytes x.answer.fate x.bytes sits.long, sits.bytes, a.under)

  -- a frame that is handed out
  handing-bytes : (b : Bool) (d : Delivery) (n : ℕ) → fate_bytes (handing b d) n ≡ d.len
  handing-bytes true d n = refl
  handing-bytes false d n = refl

  pub out-few : (x : Out) (f : Fate) → x ≡ out_of s.rest.track → f ≡ handing x.frame.still x.frame.delivery →
      fate_bytes f x.frame.delivery.len ≤ 2 ^ 50
  out-few x f e g =
      let d : Delivery = x.frame.delivery in
      let long : d.len ≡ under_bytes s.rest.track.phase = ap (λ (y : Out). y.frame.delivery.len) e ∙ out-long s.rest.track in
      rw (g, handing-bytes x.frame.still d d.len) (omega (arith, long, a.under))
