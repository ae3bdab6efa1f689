-- Each promise leaves one answer.
use mathlib.Core.Path.{◌≡◌, sym, ◌∙◌}
use mathlib.Core.List.{List}
use Prim.Native.Nat.{ℕ}
use Rattle.sizes.specs.declared.Opening.{Opening}
use Rattle.session.specs.Inner.{whole_of}
use Rattle.session_rules.specs.declared.Rest.{Rest}
use Rattle.records.specs.declared.Form.{Form}
use Rattle.records.specs.Record.{records_of}
use Rattle.trace.specs.Trace.{begin_of, step_of, said_of, traced, report_of}
use Rattle.trace.specs.Inner.{going_with, good_with}
use Rattle.trace.specs.declared.Trace.{Trace}
use Rattle.trace.specs.declared.Begun.{Begun}
use Rattle.trace.specs.declared.Going.{Going}
use Rattle.trace.specs.declared.Printed.{Printed}

pub new-unique : (o : Opening) (x y : Begun) → x ≡ begin_of o → y ≡ begin_of o → x ≡ y
new-unique o x y e g = e ∙ sym g

pub run-unique : (f : Form) (t : Trace) (l : List ℕ) (x y : Trace) → x ≡ traced f t (records_of f l) → y ≡ traced f t (records_of f l) → x ≡ y
run-unique f t l x y e g = e ∙ sym g

pub step-unique : (f : Form) (s : Rest) (m r : List ℕ) (x y : Going) (l k : List ℕ)
    → going_with x l ≡ step_of f (good_with s m) r → x.said ≡ said_of f (whole_of s m) r → going_with y k ≡ step_of f (good_with s m) r → y.said ≡ said_of f (whole_of s m) r
    → (x ≡ y) × (l ≡ k)
step-unique f s m r x y l k a b c d =
    let p = a ∙ sym c in
    (λ i. record { rest = (p i).session.rest; state = (p i).state; said = (b ∙ sym d) i }, λ i. (p i).session.numbers)

pub finish-unique : (t : Trace) (x y : Printed) → x ≡ report_of t → y ≡ report_of t → x ≡ y
finish-unique t x y e g = e ∙ sym g
