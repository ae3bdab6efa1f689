-- When each number is given: the block's own exactly when the block is refused; 90, 91, 94 and no refusal exactly as document 02 says.
use Rattle.rules.specs.Verdicts.{Verdict, accept, refuse}
use Prim.Native.Nat.{ℕ, ◌≤◌, ◌<◌}
use mathlib.Core.Path.{◌≡◌, refl, sym}
use mathlib.Core.List.{List}
use mathlib.Core.Logic.{◌↔◌}
use lib.ListN.{length}
use native.Mathlib.Omega.{arith}
use Rattle.entities.specs.declared.Entity.{Entity}
use Rattle.control.specs.Answer.{refused_by, ControlIs}
use Rattle.control.specs.Broken.{FirstBroken}
use Rattle.control.proofs.ExactlyWhen.{from_first}
use Rattle.rules.proofs.Verdicts.{apart, same-refusal}
use Rattle.control_map.specs.Answer.{AcceptedWith, MapIs}
use Rattle.control_map.specs.declared.Map.{Map}
use Rattle.control_map.proofs.ExactlyWhen.{own-number, own_first}
use Rattle.camera_settings.specs.declared.Setting.{Setting}
use Rattle.packets.specs.Packets.{packet_size}
use Rattle.setup.specs.Setup.{UnitAt, InMap, Ready, ReadyIs, ReadyIs.own, ReadyIs.by-90, ReadyIs.by-91, ReadyIs.all_there, BuildIs, BuildIs.first, BuildIs.by-94, BuildIs.built}
use Rattle.setup.proofs.Unique.{verdict-unique}

module _ (s : List ℕ) (unit : ℕ) (c : Setting) where
  -- the block is accepted, and no processing unit has the ID
  pub record NoUnit : Type 0 where
    pub seen : List Entity
    pub accepted : AcceptedWith s seen
    pub none : (i : ℕ) → UnitAt seen unit i → ⊥

  -- the block is accepted, a processing unit has the ID, and its map has not the setting
  pub record NotInMap : Type 0 where
    pub seen : List Entity
    pub accepted : AcceptedWith s seen
    pub place : ℕ
    pub is-unit : UnitAt seen unit place
    pub map : Map
    pub reads : MapIs s unit map
    pub lacks : InMap map c → ⊥

  few : (k o : ℕ) → ControlIs s (refused_by k o) → k < 16
  few k o d = own-number s unit (own_first s unit k o d)

  ready-90 : {v : Verdict} → ReadyIs s unit c v → v ≡ refuse 90 0 → NoUnit
  ready-90 (own k o d) e = absurd (let z = (same-refusal k o 90 0 e).0 in omega (arith, few k o d))
  ready-90 (by-90 l a f) e = record { seen = l; accepted = a; none = f }
  ready-90 (by-91 l a i u m r f) e = absurd (let z = (same-refusal 91 0 90 0 e).0 in omega arith)
  ready-90 (all_there r) e = absurd (apart 90 0 (sym e))

  ready-91 : {v : Verdict} → ReadyIs s unit c v → v ≡ refuse 91 0 → NotInMap
  ready-91 (own k o d) e = absurd (let z = (same-refusal k o 91 0 e).0 in omega (arith, few k o d))
  ready-91 (by-90 l a f) e = absurd (let z = (same-refusal 90 0 91 0 e).0 in omega arith)
  ready-91 (by-91 l a i u m r f) e = record { seen = l; accepted = a; place = i; is-unit = u; map = m; reads = r; lacks = f }
  ready-91 (all_there r) e = absurd (apart 91 0 (sym e))

  ready-own : {v : Verdict} → ReadyIs s unit c v → (k o : ℕ) → k < 16 → v ≡ refuse k o → FirstBroken s k o
  ready-own (own j p d) k o l e = let w = same-refusal j p k o e in rw (← w.0, ← w.1) (own_first s unit j p d)
  ready-own (by-90 h a f) k o l e = absurd (let z = (same-refusal 90 0 k o e).0 in omega arith)
  ready-own (by-91 h a i u m r f) k o l e = absurd (let z = (same-refusal 91 0 k o e).0 in omega arith)
  ready-own (all_there r) k o l e = absurd (apart k o (sym e))

  not-94 : {v : Verdict} → ReadyIs s unit c v → v ≡ refuse 94 0 → ⊥
  not-94 (own k o d) e = let z = (same-refusal k o 94 0 e).0 in omega (arith, few k o d)
  not-94 (by-90 l a f) e = let z = (same-refusal 90 0 94 0 e).0 in omega arith
  not-94 (by-91 l a i u m r f) e = let z = (same-refusal 91 0 94 0 e).0 in omega arith
  not-94 (all_there r) e = apart 94 0 (sym e)

  module _ (room : List ℕ) where
    -- a refusal by another number than 94 is that of `ready`
    from-first-rules : {v : Verdict} → BuildIs s unit c room v → (k o : ℕ) → (k ≡ 94 → ⊥) → v ≡ refuse k o → ReadyIs s unit c (refuse k o)
    from-first-rules (first j p h) k o n e = let w = same-refusal j p k o e in rw (w.0, w.1) at h
    from-first-rules (by-94 r l) k o n e = absurd (n (let z = (same-refusal 94 0 k o e).0 in omega arith))
    from-first-rules (built r l) k o n e = absurd (apart k o (sym e))

    to-94 : {v : Verdict} → BuildIs s unit c room v → v ≡ refuse 94 0 → Ready s unit c × (length room < packet_size)
    to-94 (first j p h) e = absurd (not-94 h e)
    to-94 (by-94 r l) e = (r, l)
    to-94 (built r l) e = absurd (apart 94 0 (sym e))

    to-built : {v : Verdict} → BuildIs s unit c room v → v ≡ accept → Ready s unit c × (packet_size ≤ length room)
    to-built (first k o h) e = absurd (apart k o e)
    to-built (by-94 r l) e = absurd (apart 94 0 e)
    to-built (built r l) e = (r, l)

    module _ (v : Verdict) (h : BuildIs s unit c room v) where
      pub own-given : (k o : ℕ) → k < 16 → (v ≡ refuse k o) ↔ FirstBroken s k o
      own-given k o l = (
        (λ e. ready-own (from-first-rules h k o (λ z. omega arith) e) k o l refl),
        λ f. verdict-unique s unit c room h (first k o (own k o (from_first s f))),
      )

      pub ninety-given : (v ≡ refuse 90 0) ↔ NoUnit
      ninety-given = (
        (λ e. ready-90 (from-first-rules h 90 0 (λ z. omega arith) e) refl),
        λ n. verdict-unique s unit c room h (first 90 0 (by-90 n.seen n.accepted n.none)),
      )

      pub ninety-one-given : (v ≡ refuse 91 0) ↔ NotInMap
      ninety-one-given = (
        (λ e. ready-91 (from-first-rules h 91 0 (λ z. omega arith) e) refl),
        λ n. verdict-unique s unit c room h (first 91 0 (by-91 n.seen n.accepted n.place n.is-unit n.map n.reads n.lacks)),
      )

      pub ninety-four-given : (v ≡ refuse 94 0) ↔ (Ready s unit c × (length room < packet_size))
      ninety-four-given = (to-94 h, λ n. verdict-unique s unit c room h (by-94 n.0 n.1))

      pub built-given : (v ≡ accept) ↔ (Ready s unit c × (packet_size ≤ length room))
      built-given = (to-built h, λ n. verdict-unique s unit c room h (built n.0 n.1))
