-- The promise of `controls` leaves one answer.
use Prim.Native.Nat.{ℕ}
use mathlib.Core.Path.{◌≡◌, refl, ap}
use mathlib.Core.List.{List}
use Rattle.entities.specs.Table.{entity_at}
use Rattle.entities.specs.declared.Entity.{Entity}
use Rattle.control.specs.Answer.{refused_by, accepted_with, ControlIs}
use Rattle.control.specs.declared.Control.{Control}
use Rattle.rules.proofs.Verdicts.{apart, same_by}
use Rattle.control.proofs.Unique.{read-unique}
use Rattle.control.proofs.ExactlyWhen.{one_list}
use Rattle.control_map.specs.Answer.{AcceptedWith, Mapped, controls_at, refused_map, MapIs, MapIs.own, MapIs.given, MapIs.sixteen}
use Rattle.control_map.specs.declared.Map.{Map}
use Rattle.control_map.proofs.Mapping.{clean, mapped-once, one_place}

verdicts-same : (a b : Control) → a ≡ b → a.verdict ≡ b.verdict
verdicts-same a b e = ap (λ (c : Control). c.verdict) e

module _ (s : List ℕ) (id : ℕ) where
  pub not-both : (k o : ℕ) (l : List Entity) → ControlIs s (refused_by k o) → AcceptedWith s l → ⊥
  not-both k o l c a = apart k o (verdicts-same (refused_by k o) (accepted_with s l) (read-unique s c a.accepted))

  pub same-list : (l m : List Entity) → AcceptedWith s l → AcceptedWith s m → l ≡ m
  same-list l m a b = one_list s (clean s l a) l m a.entities b.entities

  same-controls : (l m : List Entity) (i p j q : ℕ) → AcceptedWith s l → AcceptedWith s m → Mapped l id i p → Mapped m id j q
      → controls_at s (entity_at l i).offset p ≡ controls_at s (entity_at m j).offset q
  same-controls l m i p j q a b x y =
      let e : l ≡ m = same-list l m a b in
      let x' : Mapped m id i p = rw e at x in
      let k : i ≡ j = mapped-once s m b id i p j x' y.named y.inside in
      let n : p ≡ q = one_place (entity_at m j) p q (rw k at x'.has) y.has in
      rw (e, k, n)

  pub controls-unique : {r t : Map} → MapIs s id r → MapIs s id t → r ≡ t
  controls-unique (own k o c) (own j p d) = same_by refused_map k o j p (verdicts-same (refused_by k o) (refused_by j p) (read-unique s c d))
  controls-unique (own k o c) (given l a i p m) = absurd (not-both k o l c a)
  controls-unique (own k o c) (sixteen l a n) = absurd (not-both k o l c a)
  controls-unique (given l a i p m) (own k o c) = absurd (not-both k o l c a)
  controls-unique (given l a i p m) (given h b j n q) = same-controls l h i p j n a b m q
  controls-unique (given l a i p m) (sixteen h b n) = absurd (n i p (rw (same-list l h a b) at m))
  controls-unique (sixteen l a n) (own k o c) = absurd (not-both k o l c a)
  controls-unique (sixteen l a n) (given h b j p q) = absurd (n j p (rw (same-list h l b a) at q))
  controls-unique (sixteen l a n) (sixteen h b m) = refl
