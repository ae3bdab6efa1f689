-- What the library's methods on an Option make is what the definitions of a turn make.
use Rattle.std.specs.Prelude.{None, Some, is_some}
use Rattle.std.specs.Option.{option_or, unwrap_or}
use Rattle.std.specs.Bool.{then_some}
use Rattle.session_rules.specs.Options.{Fault, Layer, Stamp}
use Prim.Native.Nat.{ℕ}
use mathlib.Core.Path.{◌≡◌, refl}
use mathlib.Core.Bool.{Bool, true, false, not, ◌&&◌, beq}
use lib.Dec.{eqb}
use Rattle.session_rules.specs.declared.Reason.{Reason}
use Rattle.session_rules.specs.Turns.{first_of, earlier_of, later_of, why_of, same_of, ready_of}

pub or-first : (f : Fault) (bad : Bool) (why : Reason) → option_or f (then_some bad why) ≡ first_of f bad why
or-first (Some w) bad why = refl
or-first None true why = refl
or-first None false why = refl

pub or-earlier : (a b : Stamp) → option_or a b ≡ earlier_of a b
or-earlier None b = refl
or-earlier (Some x) b = refl

pub or-later : (a b : Layer) → option_or b a ≡ later_of a b
or-later a None = refl
or-later a (Some y) = refl

pub or-why : (f : Fault) (other : Reason) → unwrap_or f other ≡ why_of f other
or-why None other = refl
or-why (Some why) other = refl

-- a frame without fault so far, with data
pub none-ready : (f : Fault) (n : ℕ) (x : Bool) → is_some f ≡ not x → (x && not (eqb n 0)) ≡ ready_of f n
none-ready None n true e = refl
none-ready (Some w) n false e = refl
none-ready None n false e = cc
none-ready (Some w) n true e = cc

pub beq-same : (a b : Bool) → beq a b ≡ same_of a b
beq-same true true = refl
beq-same true false = refl
beq-same false true = refl
beq-same false false = refl
