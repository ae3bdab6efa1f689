-- Each promise leaves one answer.
use Prim.Native.Nat.{ℕ}
use mathlib.Core.Path.{◌≡◌, sym, ◌∙◌}
use mathlib.Core.Bool.{Bool}
use mathlib.Core.List.{List}
use Rattle.records.specs.declared.Form.{Form}
use Rattle.records.specs.Record.{length_at, record_bad}

pub bad-unique : (f : Form) (r : List ℕ) (x y : Bool) → x ≡ record_bad f r → y ≡ record_bad f r → x ≡ y
bad-unique f r x y e g = e ∙ sym g

pub length-unique : (f : Form) (r : List ℕ) (m n : ℕ) → m ≡ length_at f r → n ≡ length_at f r → m ≡ n
length-unique f r m n e g = e ∙ sym g
