-- What a call makes of the frame under way, one law for each way through the code.
use Rattle.std.specs.Prelude.{None, Some}
use Rattle.std.specs.Option.{unwrap_or}
use Rattle.frames.proofs.Choices.{or-why, beq-same}
use Rattle.session_rules.specs.Options.{Fault, Layer, Stamp}
use Prim.Native.Nat.{ℕ, ◌+◌, ◌<◌, ◌^◌}
use mathlib.Core.Path.{◌≡◌, refl, sym, ◌∙◌}
use mathlib.Core.Bool.{Bool, true, false, not, ◌&&◌, beq}
use native.Mathlib.Omega.{arith}
use lib.Dec.{eqb}
use borrow.Author.Tests.{eq-eqb, ne_eqb}
use Rattle.rules.specs.IfElse.{yes, no, said-yes, said-no}
use Rattle.sizes.specs.declared.Opening.{Opening}
use Rattle.sizes.specs.Framing.{by_eof}
use Rattle.session_rules.specs.declared.Header.{Header}
use Rattle.session_rules.specs.declared.Reason.{Reason}
use Rattle.session_rules.specs.declared.Reason.TheVariants.{Empty}
use Rattle.session_rules.specs.declared.Fate.TheVariants.{Delivered, Still, Dropped}
use Rattle.session_rules.specs.declared.Run.{Run}
use Rattle.session_rules.specs.declared.Phase.{Phase}
use Rattle.session_rules.specs.declared.Phase.TheVariants.{Fresh, Under, Past}
use Rattle.session_rules.specs.declared.Track.{Track}
use Rattle.session_rules.specs.declared.Turn.{Turn}
use Rattle.session_rules.specs.Turns.{same_of, begun_of, turned_why, join_turn, stray_turn, turn_of, complete_of, ready_of, hands_by, hands_of, out_by, out_of, closed_by, closed_of, Roomy}

-- ---- a readable transfer
module _ (o : Opening) (t : Track) (h : Header) (n : ℕ) (x : Turn) where
  pub turn-fresh : (b : Run) → t.phase ≡ Fresh → b ≡ begun_of t.gap h.fid h.still → x ≡ join_turn o b h n None 0 → x ≡ turn_of o t h n
  unfolding turn_of
  turn-fresh b p e q = rw p (rw e at q)

  -- the frame goes on
  pub turn_on : (r : Run) → t.phase ≡ Under r → beq r.fid h.fid ≡ true → x ≡ join_turn o r h n None 0 → x ≡ turn_of o t h n
  unfolding turn_of
  turn_on r p y q = rw p (said-yes _ (same_of r.fid h.fid) x _ _ (beq-same r.fid h.fid) y q)

  -- another FID ends the frame and begins the next
  pub turn-ends :
      (r : Run) (v w : Reason) (b : Run) → t.phase ≡ Under r → beq r.fid h.fid ≡ false → v ≡ turned_why o →
      w ≡ unwrap_or r.fault v → b ≡ begun_of t.gap h.fid h.still → x ≡ join_turn o b h n (Some w) r.bytes → x ≡ turn_of o t h n
  unfolding turn_of
  turn-ends r v w b p y u d g q =
      rw p (said-no _ (same_of r.fid h.fid) x _ _ (beq-same r.fid h.fid) y (rw (d, or-why r.fault v, u, g) at q))

  pub turn-stray : (fid : Bool) → t.phase ≡ Past fid → beq fid h.fid ≡ true → x ≡ stray_turn fid n → x ≡ turn_of o t h n
  unfolding turn_of
  turn-stray fid p y q = rw p (said-yes _ (same_of fid h.fid) x _ _ (beq-same fid h.fid) y q)

  pub turn-past : (fid : Bool) (b : Run) → t.phase ≡ Past fid → beq fid h.fid ≡ false → b ≡ begun_of t.gap h.fid h.still →
      x ≡ join_turn o b h n None 0 → x ≡ turn_of o t h n
  unfolding turn_of
  turn-past fid b p y g q = rw p (said-no _ (same_of fid h.fid) x _ _ (beq-same fid h.fid) y (rw g at q))

-- ---- a complete frame
module _ (f : Fault) (n : ℕ) (s : Stamp) (l : Layer) (b : Bool) where
  pub complete-bad : (w : Reason) → f ≡ Some w → Dropped w ≡ complete_of f n s l b
  complete-bad w e = rw e

  pub complete-empty : f ≡ None → n ≡ 0 → Dropped Empty ≡ complete_of f n s l b
  complete-empty e z = rw e (yes (eqb n 0) _ _ _ (eq-eqb n 0 z) refl)

  pub complete-still : f ≡ None → (n ≡ 0 → ⊥) → b ≡ true → Still (record { len = n; stamp = s; layer = l }) ≡ complete_of f n s l b
  complete-still e z y = rw e (no (eqb n 0) _ _ _ (ne_eqb n 0 z) (yes b _ _ _ y refl))

  pub complete-whole : f ≡ None → (n ≡ 0 → ⊥) → b ≡ false → Delivered (record { len = n; stamp = s; layer = l }) ≡ complete_of f n s l b
  complete-whole e z y = rw e (no (eqb n 0) _ _ _ (ne_eqb n 0 z) (no b _ _ _ y refl))

-- ---- EOF, with D1 of the framing byte set
pub and_yes : (s b e : Bool) → s ≡ b → s ≡ true → e ≡ (b && e)
and_yes s b e p q = rw (← p, q)

pub and_no : (s b e : Bool) → s ≡ b → s ≡ false → s ≡ (b && e)
and_no s b e p q = rw (← p, q)

-- ---- whether a frame is handed out
and-false : (b : Bool) → false ≡ (b && false)
and-false true = refl
and-false false = refl

module _ (o : Opening) (t : Track) (h : Header) where
  pub hands-fresh : t.phase ≡ Fresh → false ≡ hands_of o t h
  unfolding hands_of
  hands-fresh p = rw p

  pub hands-past : (fid : Bool) → t.phase ≡ Past fid → false ≡ hands_of o t h
  unfolding hands_of
  hands-past fid p = rw p

  pub hands-eof : (s : Bool) → s ≡ by_eof o → s ≡ true → false ≡ hands_of o t h
  unfolding hands_of
  hands-eof s e y = go t.phase
    where
      z : by_eof o ≡ true
      z = sym e ∙ y

      go : (p : Phase) → false ≡ hands_by p o h
      go Fresh = refl
      go (Past fid) = refl
      go (Under r) = rw z

  pub hands_on : (r : Run) → t.phase ≡ Under r → not (beq r.fid h.fid) ≡ false → not (beq r.fid h.fid) ≡ hands_of o t h
  unfolding hands_of
  hands_on r p y = rw (p, ← beq-same r.fid h.fid, y) (and-false (not (by_eof o)))

  pub hands-ready : (r : Run) (s x : Bool) → t.phase ≡ Under r → s ≡ by_eof o → s ≡ false → not (beq r.fid h.fid) ≡ true →
      x ≡ ready_of r.fault r.bytes → x ≡ hands_of o t h
  unfolding hands_of
  hands-ready r s x p e y z d = rw (p, ← e, y, ← beq-same r.fid h.fid, z) d

-- ---- the hand-out
out-by-fresh : (p : Phase) (gap : Bool) → p ≡ Fresh →
    record { track = record { phase = p; gap = gap }; frame = record { still = false; delivery = record { len = 0; stamp = None; layer = None } } } ≡ out_by p gap
out-by-fresh p gap e = rw e

out-by-past : (p : Phase) (gap fid : Bool) → p ≡ Past fid →
    record { track = record { phase = p; gap = gap }; frame = record { still = false; delivery = record { len = 0; stamp = None; layer = None } } } ≡ out_by p gap
out-by-past p gap fid e = rw e

pub out-fresh : (t : Track) → t.phase ≡ Fresh →
    record { track = t; frame = record { still = false; delivery = record { len = 0; stamp = None; layer = None } } } ≡ out_of t
unfolding out_of
out-fresh t e = out-by-fresh t.phase t.gap e

pub out-past : (t : Track) (fid : Bool) → t.phase ≡ Past fid →
    record { track = t; frame = record { still = false; delivery = record { len = 0; stamp = None; layer = None } } } ≡ out_of t
unfolding out_of
out-past t fid e = out-by-past t.phase t.gap fid e

-- ---- close
closed-by-fresh : (p : Phase) (gap : Bool) → p ≡ Fresh →
    record { track = record { phase = p; gap = gap }; ended = None; gone = 0 } ≡ closed_by p gap
closed-by-fresh p gap e = rw e

closed-by-past : (p : Phase) (gap fid : Bool) → p ≡ Past fid →
    record { track = record { phase = p; gap = gap }; ended = None; gone = 0 } ≡ closed_by p gap
closed-by-past p gap fid e = rw e

pub closed-fresh : (t : Track) → t.phase ≡ Fresh → record { track = t; ended = None; gone = 0 } ≡ closed_of t
unfolding closed_of
closed-fresh t e = closed-by-fresh t.phase t.gap e

pub closed-past : (t : Track) (fid : Bool) → t.phase ≡ Past fid → record { track = t; ended = None; gone = 0 } ≡ closed_of t
unfolding closed_of
closed-past t fid e = closed-by-past t.phase t.gap fid e

-- ---- no sum wraps
pub begun-room : (b : Run) (gap fid still : Bool) (n : ℕ) → b ≡ begun_of gap fid still → n < 2 ^ 62 → (b.bytes + n < 2 ^ 63) × (b.fill + n < 2 ^ 63)
begun-room b gap fid still n e l = rw e (omega arith, omega arith)

pub under-room : (p : Phase) (r : Run) (n : ℕ) → p ≡ Under r → Roomy p → n < 2 ^ 62 → (r.bytes + n < 2 ^ 63) × (r.fill + n < 2 ^ 63)
under-room p r n e m l = let w : Roomy (Under r) = rw e at m in (omega arith, omega arith)
