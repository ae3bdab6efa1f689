-- What a C host is told of a verdict: 0 for accepted, else the number and the place.
use Rattle.rules.specs.Verdicts.{Verdict}
use Rattle.std.specs.Prelude.{ℕ, zero, suc, ◌≡◌, List, [], ◌∷◌, Err, Ok}
use Rattle.host_told.specs.declared.Told.{Told}

abbrev pub number_of : Verdict → ℕ
number_of (Ok _) = 0
number_of (Err r) = r.number

abbrev pub offset_of : Verdict → ℕ
offset_of (Ok _) = 0
offset_of (Err r) = r.offset

abbrev pub verdict_told : Verdict → Told
verdict_told v = record { number = number_of v; zero = 0; offset = offset_of v }

-- ours: an argument is none of those that a call knows; no rule of the documents has this number
abbrev pub unknown : ℕ
unknown = 200

abbrev pub unknown_told : Told
unknown_told = record { number = unknown; zero = 0; offset = 0 }

-- r is what `told` makes of an answer that a reader may give
pub record From {A B : Type 0} (Is : A → Type 0) (told : A → B) (r : B) : Type 0 where
  pub answer : A
  pub read : Is answer
  pub same : r ≡ told answer

-- what is told of the k-th of a list, from 0; `none` where there is no k-th
unfoldable pub kth : {A B : Type 0} → B → (A → B) → List A → ℕ → B
kth none told [] k = none
kth none told (x ∷ l) zero = told x
kth none told (x ∷ l) (suc k) = kth none told l k
