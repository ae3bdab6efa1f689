-- The promise of `read` leaves one answer.
use Rattle.rules.specs.Verdicts.{Verdict, accept, refuse}
use Prim.Native.Nat.{ℕ}
use mathlib.Core.Path.{◌≡◌, refl, sym, ap, ◌∙◌}
use mathlib.Core.List.{List}
use Rattle.rules.proofs.Verdicts.{apart, clash, same_by}
use Rattle.control.proofs.Unique as control
use Rattle.interfaces.specs.Inner.{block_of}
use Rattle.configuration.specs.Inner.{late_by, LateIs, control_place, refused_by, ConfigurationIs, laid, blocks, sound}
use Rattle.configuration.specs.declared.Configuration.{Configuration}

pub late-unique : (s : List ℕ) (o : ℕ) (v w : Verdict) → LateIs s o v → LateIs s o w → v ≡ w
late-unique s o v w p q =
    p.same ∙ ap (late_by s o) (control.read-unique (block_of s o) p.read q.read) ∙ sym q.same

pub read-unique : (s : List ℕ) {x y : Configuration} → ConfigurationIs s x → ConfigurationIs s y → x ≡ y
read-unique s (laid k o e) (laid j p f) = same_by refused_by k o j p (sym e ∙ f)
read-unique s (laid k o e) (blocks j p f l) = absurd (clash _ k o e f)
read-unique s (laid k o e) (sound f l) = absurd (clash _ k o e f)
read-unique s (blocks k o e l) (laid j p f) = absurd (clash _ j p f e)
read-unique s (blocks k o e l) (blocks j p f m) = same_by refused_by k o j p (late-unique s (control_place s) (refuse k o) (refuse j p) l m)
read-unique s (blocks k o e l) (sound f m) = absurd (apart k o (late-unique s (control_place s) (refuse k o) accept l m))
read-unique s (sound e l) (laid j p f) = absurd (clash _ j p f e)
read-unique s (sound e l) (blocks j p f m) = absurd (apart j p (late-unique s (control_place s) (refuse j p) accept m l))
read-unique s (sound e l) (sound f m) = refl
