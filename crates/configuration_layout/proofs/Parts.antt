-- Where nothing of 70, 71, 72 and 75 is broken, each by itself is not.
use Rattle.std.specs.Prelude.{Err, Ok}
use Prim.Native.Nat.{ℕ, ◌≤◌, ◌<◌}
use mathlib.Core.Path.{◌≡◌, refl, sym, ◌∙◌}
use mathlib.Core.List.{List, []}
use mathlib.Core.Logic.{⊎_elim}
use lib.ListN.{length}
use native.Mathlib.Omega.{arith}
use Rattle.rules.specs.Verdicts.{◌and_then◌, Verdict, accept}
use Rattle.rules.proofs.Firsts.{lt-or-ge}
use Rattle.rules.proofs.Verdicts.{apart}
use Rattle.configuration_rules.specs.declared.Sought.TheVariants.{Control}
use Rattle.interfaces.specs.Inner.{found, next_of}
use Rattle.interfaces.proofs.Lines.{found-end, next-is}
use Rattle.configuration_layout.specs.Inner.{verdict70, verdict71, controls_verdict, verdict72, verdict75, layout_verdict}

pub both : (a b : Verdict) → a and_then b ≡ accept → (a ≡ accept) × (b ≡ accept)
both (Ok _) b e = (refl, e)
both (Err r) b e = absurd (apart r.number r.offset e)

pub all-four : (s : List ℕ) → layout_verdict s ≡ accept → (verdict70 s ≡ accept) × (verdict71 s ≡ accept) × (verdict72 s ≡ accept) × (verdict75 s ≡ accept)
unfolding layout_verdict
all-four s e =
    let a = both (verdict70 s) (verdict71 s and_then (verdict72 s and_then verdict75 s)) e in
    let b = both (verdict71 s) (verdict72 s and_then verdict75 s) a.1 in
    let c = both (verdict72 s) (verdict75 s) b.1 in
    (a.0, b.0, c.0, c.1)

-- there is a control interface
pub control-there : (s : List ℕ) → layout_verdict s ≡ accept → (at : ℕ) → at ≡ next_of Control s 0 → at < length s
unfolding controls_verdict
control-there s e at q = rw q (⊎_elim (λ h. h) none (lt-or-ge (next_of Control s 0) (length s)))
  where
    none : length s ≤ next_of Control s 0 → next_of Control s 0 < length s
    none h =
        let z : found Control s 0 ≡ [] = sym (next-is s Control 0 (omega arith)).same ∙ found-end s Control (next_of Control s 0) h in
        absurd (apart 72 0 (rw z at (all-four s e).2))
