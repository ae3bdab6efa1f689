-- What stands after the lines: nothing of a good list of frames, and else the report.
use mathlib.Core.Path.{◌≡◌, refl, sym, subst, ◌∙◌}
use mathlib.Core.Bool.{Bool, true, false, true≢false}
use mathlib.Core.List.{List, []}
use Prim.Native.Nat.{ℕ}
use native.Mathlib.Omega.{arith}
use lib.ListN.{length}
use lib.Dec.{ltb}
use Rattle.io.specs.Counts.{IsPrefixLen}
use Rattle.text.specs.Written.{size_by, buffer_by, answer_of, buffer_of}
use Rattle.trace.specs.declared.State.{State}
use Rattle.trace.specs.declared.State.TheVariants.{Good, Bad, Refused}
use Rattle.frame_lines.specs.declared.Show.{Show}
use Rattle.frame_lines.specs.declared.Show.TheVariants.{Nothing, Replay, Frames}
use Rattle.ledger_text.specs.Report.{room, text_of, end_text}
use Rattle.ledger_text.specs.Inner.{is_unsaid}

unsaid : (w : Show) (s : State) (ns : List ℕ) → is_unsaid w s ≡ true → end_text w s ns ≡ []
unsaid Nothing s ns e = absurd (true≢false (sym e))
unsaid Replay s ns e = absurd (true≢false (sym e))
unsaid Frames Good ns e = refl
unsaid Frames (Bad n) ns e = absurd (true≢false (sym e))
unsaid Frames (Refused k n) ns e = absurd (true≢false (sym e))

said : (w : Show) (s : State) (ns : List ℕ) → is_unsaid w s ≡ false → end_text w s ns ≡ text_of s ns
said Nothing s ns e = refl
said Replay s ns e = refl
said Frames Good ns e = absurd (true≢false e)
said Frames (Bad n) ns e = refl
said Frames (Refused k n) ns e = refl

abbrev Answers : List ℕ → List ℕ → ℕ → List ℕ → Type 0
Answers t old r new = (r ≡ answer_of room t old) × ((new ≡ buffer_of room t old) × IsPrefixLen r new)

module _ (w : Show) (s : State) (ns old : List ℕ) (x : Bool) (tested : x ≡ is_unsaid w s) where
  pub ends-unsaid : x ≡ true → Answers (end_text w s ns) old 0 old
  ends-unsaid e = rw (unsaid w s ns (sym tested ∙ e)) (go (ltb (length old) room))
    where
      go : (b : Bool) → (0 ≡ size_by b []) × ((old ≡ buffer_by b [] old) × IsPrefixLen 0 old)
      go true = (refl, (refl, (omega arith, refl)))
      go false = (refl, (refl, (omega arith, refl)))

  pub ends-said : (r : ℕ) (new : List ℕ) → x ≡ false → Answers (text_of s ns) old r new → Answers (end_text w s ns) old r new
  ends-said r new e a = subst (λ (t : List ℕ). Answers t old r new) (sym (said w s ns (sym tested ∙ e))) a
