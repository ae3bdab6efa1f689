-- Each promise leaves one answer.
use Prim.Native.Nat.{ℕ}
use mathlib.Core.Path.{◌≡◌, sym, ◌∙◌}
use mathlib.Core.Bool.{Bool}
use Rattle.sizes.specs.Sizes.{frame_size_broken, payload_size_broken}
use Rattle.sizes.specs.declared.Opening.{Opening}
use Rattle.sizes.specs.Framing.{by_eof}

pub frame-size-unique : (n : ℕ) (x y : Bool) → x ≡ frame_size_broken n → y ≡ frame_size_broken n → x ≡ y
frame-size-unique n x y e f = e ∙ sym f

pub payload-size-unique : (n : ℕ) (x y : Bool) → x ≡ payload_size_broken n → y ≡ payload_size_broken n → x ≡ y
payload-size-unique n x y e f = e ∙ sym f

pub by-eof-unique : (o : Opening) (x y : Bool) → x ≡ by_eof o → y ≡ by_eof o → x ≡ y
by-eof-unique o x y e f = e ∙ sym f
