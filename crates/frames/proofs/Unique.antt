-- Two answers that a promise allows are equal.
use Rattle.session_rules.specs.Options.{Stamp}
use Prim.Native.Nat.{ℕ}
use mathlib.Core.Bool.{Bool}
use mathlib.Core.Path.{◌≡◌, sym, ◌∙◌}
use Rattle.sizes.specs.declared.Opening.{Opening}
use Rattle.session_rules.specs.declared.Header.{Header}
use Rattle.session_rules.specs.declared.Track.{Track}
use Rattle.session_rules.specs.declared.Turn.{Turn}
use Rattle.session_rules.specs.declared.HandOut.{HandOut}
use Rattle.session_rules.specs.declared.Out.{Out}
use Rattle.session_rules.specs.declared.Shut.{Shut}
use Rattle.session_rules.specs.declared.Fate.{Fate}
use Rattle.session_rules.specs.Track.{handing}
use Rattle.session_rules.specs.Turns.{clash_of, turn_of, hands_of, out_of, spoilt_of, closed_of}

pub clash-unique : (a b : Stamp) (x y : Bool) → x ≡ clash_of a b → y ≡ clash_of a b → x ≡ y
clash-unique a b x y p q = p ∙ sym q

pub turn-unique : (o : Opening) (t : Track) (h : Header) (n : ℕ) (x y : Turn) → x ≡ turn_of o t h n → y ≡ turn_of o t h n → x ≡ y
turn-unique o t h n x y p q = p ∙ sym q

pub hands-unique : (o : Opening) (t : Track) (h : Header) (x y : Bool) → x ≡ hands_of o t h → y ≡ hands_of o t h → x ≡ y
hands-unique o t h x y p q = p ∙ sym q

pub hand-out-unique : (t : Track) (x y : Out) → x ≡ out_of t → y ≡ out_of t → x ≡ y
hand-out-unique t x y p q = p ∙ sym q

pub fate-for-unique : (h : HandOut) (x y : Fate) → x ≡ handing h.still h.delivery → y ≡ handing h.still h.delivery → x ≡ y
fate-for-unique h x y p q = p ∙ sym q

pub spoilt-unique : (t x y : Track) → x ≡ spoilt_of t → y ≡ spoilt_of t → x ≡ y
spoilt-unique t x y p q = p ∙ sym q

pub shut-unique : (t : Track) (x y : Shut) → x ≡ closed_of t → y ≡ closed_of t → x ≡ y
shut-unique t x y p q = p ∙ sym q
