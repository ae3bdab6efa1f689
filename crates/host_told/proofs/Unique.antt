-- The promises leave one answer.
use Rattle.rules.specs.Verdicts.{Verdict}
use Prim.Native.Nat.{ℕ}
use mathlib.Core.Path.{◌≡◌, sym, ap, ◌∙◌}
use Rattle.host_told.specs.Told.{number_of, offset_of, verdict_told, unknown_told, From}
use Rattle.host_told.specs.declared.Told.{Told}

pub tell-unique : (v : Verdict) (r t : Told) → r ≡ verdict_told v → t ≡ verdict_told v → r ≡ t
tell-unique v r t e f = e ∙ sym f

pub unknown-unique : (r t : Told) → r ≡ unknown_told → t ≡ unknown_told → r ≡ t
unknown-unique r t e f = e ∙ sym f

pub number-unique : (v : Verdict) (r t : ℕ) → r ≡ number_of v → t ≡ number_of v → r ≡ t
number-unique v r t e f = e ∙ sym f

pub offset-unique : (v : Verdict) (r t : ℕ) → r ≡ offset_of v → t ≡ offset_of v → r ≡ t
offset-unique v r t e f = e ∙ sym f

-- of a reader with one answer, whatever is told of it
pub from-unique : {A B : Type 0} {Is : A → Type 0} → ((a b : A) → Is a → Is b → a ≡ b) → (told : A → B) (r t : B) → From Is told r → From Is told t → r ≡ t
from-unique one told r t x y = x.same ∙ ap told (one x.answer y.answer x.read y.read) ∙ sym y.same
