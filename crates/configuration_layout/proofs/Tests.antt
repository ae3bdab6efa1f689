-- What the tests of rule 72 say of its definition, in the order of the code.
use Prim.Native.Nat.{ℕ, ◌≤◌, ◌<◌}
use mathlib.Core.Path.{◌≡◌, sym, ◌∙◌}
use mathlib.Core.List.{List, [], ◌∷◌}
use lib.ListN.{length}
use native.Mathlib.Omega.{arith}
use Rattle.rules.specs.Verdicts.{Verdict, accept, refuse}
use Rattle.configuration_rules.specs.Descriptors.{after_at}
use Rattle.configuration_rules.specs.declared.Sought.TheVariants.{Control}
use Rattle.interfaces.specs.Inner.{found, next_of}
use Rattle.interfaces.proofs.Lines.{found-end, found_here, next-is, after_on}
use Rattle.configuration_layout.specs.Inner.{controls_verdict, verdict72}

-- ---- 72
module _ (s : List ℕ) (a : ℕ) (e : a ≡ next_of Control s 0) where
  pub no-control : (x : Verdict) → length s ≤ a → x ≡ refuse 72 0 → x ≡ verdict72 s
  unfolding controls_verdict
  no-control x h q =
      let n = next-is s Control 0 (omega arith) in
      let z : found Control s 0 ≡ [] = sym (rw (← e) at n.same) ∙ found-end s Control a h in
      rw z q

  module _ (h : a < length s) (j b : ℕ) (p : j ≡ after_at s a) (f : b ≡ next_of Control s j) where
    one-at-least : found Control s 0 ≡ a ∷ found Control s b
    one-at-least =
        let n = next-is s Control 0 (omega arith) in
        let w : j ≤ length s = rw p (after_on s a h).1 in
        let m = next-is s Control j w in
        let i = rw (← e) at n.here in
        let z = sym (rw (← e) at n.same) ∙ found_here s Control a h (i h) in
        let y : found Control s b ≡ found Control s (after_at s a) = rw (f, ← p) m.same in
        rw y z

    pub second-control : (x : Verdict) → b < length s → x ≡ refuse 72 b → x ≡ verdict72 s
    unfolding controls_verdict
    second-control x l q =
        let w : j ≤ length s = rw p (after_on s a h).1 in
        let i = rw (← f) at (next-is s Control j w).here in
        rw (one-at-least, found_here s Control b l (i l)) q

    pub one-control : length s ≤ b → accept ≡ verdict72 s
    unfolding controls_verdict
    one-control l = rw (one-at-least, found-end s Control b l)
