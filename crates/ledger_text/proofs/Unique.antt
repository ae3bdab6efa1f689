-- The promise of `write` leaves one answer and one content of the buffer; and no text is empty, so that 0 is a refusal.
use mathlib.Core.Path.{◌≡◌}
use mathlib.Core.List.{List}
use Prim.Native.Nat.{ℕ, ◌<◌}
use native.Mathlib.Omega.{arith}
use lib.ListN.{length}
use Rattle.text.specs.Written.{answer_of, buffer_of}
use Rattle.text.proofs.Whole.{text-unique}
use Rattle.trace.specs.declared.State.{State}
use Rattle.trace.specs.declared.State.TheVariants.{Good, Bad, Refused}
use Rattle.ledger_text.specs.Report.{room, rows, text_of}

pub write-unique : (s : State) (ns old : List ℕ) (r₁ r₂ : ℕ) (new₁ new₂ : List ℕ) → r₁ ≡ answer_of room (text_of s ns) old → new₁ ≡ buffer_of room (text_of s ns) old
    → r₂ ≡ answer_of room (text_of s ns) old → new₂ ≡ buffer_of room (text_of s ns) old → (r₁ ≡ r₂) × (new₁ ≡ new₂)
write-unique s ns old = text-unique room (text_of s ns) old

-- 0 is the answer of a refusal only: no text is empty
pub some-text : (s : State) (ns : List ℕ) → 0 < length (text_of s ns)
unfolding rows
some-text Good ns = omega arith
some-text (Bad n) ns = omega arith
some-text (Refused k n) ns = omega arith
