-- The promise of `read` leaves one answer.
use Rattle.rules.specs.Verdicts.{Verdict}
use Prim.Native.Nat.{ℕ}
use mathlib.Core.Path.{◌≡◌, sym, ap, ◌∙◌}
use mathlib.Core.List.{List}
use native.Mathlib.Omega.{arith}
use Rattle.rules.specs.Walk.{Outcome, Outcome.done, Outcome.stop}
use Rattle.rules.proofs.Rows.{given-unique, given-none}
use Rattle.rules.proofs.Verdicts.{apart, same_by}
use Rattle.entities.specs.declared.Entity.{Entity}
use Rattle.sources.specs.Sources.{Judged}
use Rattle.sources.proofs.Unique.{judge-unique}
use Rattle.control.specs.Answer.{refused_by, accepted_with, ControlIs, ControlIs.block, ControlIs.descriptor, ControlIs.source, ControlIs.sound}
use Rattle.control.specs.declared.Control.{Control}

pub done-apart : (l : List Entity) (k o : ℕ) → done l ≡ stop k o → ⊥
done-apart l k o e = let z : ◌≡◌ {A = ℕ} 0 1 = cc in omega arith

pub same_seen : (a b : List Entity) → done a ≡ done b → a ≡ b
same_seen a b e = cc

stop-refusal : (k o j p : ℕ) → ◌≡◌ {A = Outcome (List Entity)} (stop k o) (stop j p) → refused_by k o ≡ refused_by j p
stop-refusal k o j p e = let x : k ≡ j = cc in let y : o ≡ p = cc in rw (x, y)

module _ (s : List ℕ) where
  judged-same : (a b : List Entity) (v w : Verdict) → a ≡ b → Judged s a v → Judged s b w → v ≡ w
  judged-same a b v w e p q = judge-unique s b (rw e at p) q

  pub read-unique : {c d : Control} → ControlIs s c → ControlIs s d → c ≡ d
  read-unique (block k e) (block j f) = ap (λ (n : ℕ). refused_by n 0) (given-unique e f)
  read-unique (block k e) (descriptor j p z y) = absurd (given-none e z)
  read-unique (block k e) (source l j p z y v) = absurd (given-none e z)
  read-unique (block k e) (sound l z y v) = absurd (given-none e z)
  read-unique (descriptor k o z y) (block j f) = absurd (given-none f z)
  read-unique (descriptor k o z y) (descriptor j p x w) = stop-refusal k o j p (sym y ∙ w)
  read-unique (descriptor k o z y) (source l j p x w v) = absurd (done-apart l k o (sym w ∙ y))
  read-unique (descriptor k o z y) (sound l x w v) = absurd (done-apart l k o (sym w ∙ y))
  read-unique (source l k o z y v) (block j f) = absurd (given-none f z)
  read-unique (source l k o z y v) (descriptor j p x w) = absurd (done-apart l j p (sym y ∙ w))
  read-unique (source l k o z y v) (source m j p x w u) = same_by refused_by k o j p (judged-same l m _ _ (same_seen l m (sym y ∙ w)) v u)
  read-unique (source l k o z y v) (sound m x w u) = absurd (apart k o (judged-same l m _ _ (same_seen l m (sym y ∙ w)) v u))
  read-unique (sound l z y v) (block j f) = absurd (given-none f z)
  read-unique (sound l z y v) (descriptor j p x w) = absurd (done-apart l j p (sym y ∙ w))
  read-unique (sound l z y v) (source m j p x w u) = absurd (apart j p (sym (judged-same l m _ _ (same_seen l m (sym y ∙ w)) v u)))
  read-unique (sound l z y v) (sound m x w u) = ap (accepted_with s) (same_seen l m (sym y ∙ w))
