-- The promises of `ready`, `build` and `read` leave one answer and one content of the room.
use Rattle.rules.specs.Verdicts.{Verdict, refuse}
use Prim.Native.Nat.{ℕ}
use mathlib.Core.Path.{◌≡◌, refl, sym, ap, ◌∙◌}
use mathlib.Core.List.{List}
use native.Mathlib.Omega.{arith}
use Rattle.rules.proofs.Verdicts.{apart, same-refusal}
use Rattle.entities.specs.declared.Entity.{Entity}
use Rattle.control.specs.Answer.{refused_by, ControlIs}
use Rattle.control.specs.declared.Control.{Control}
use Rattle.control.proofs.Unique as control
use Rattle.control_map.specs.Answer.{AcceptedWith}
use Rattle.control_map.proofs.Unique.{same-list, not-both}
use Rattle.camera_settings.specs.declared.Setting.{Setting}
use Rattle.packets.specs.Packets.{leaves}
use Rattle.packets.specs.declared.Reading.{Reading}
use Rattle.packets.proofs.Spelling.{packet-different}
use Rattle.setup.specs.Setup.{UnitAt, Ready, ReadyIs, ReadyIs.own, ReadyIs.by-90, ReadyIs.by-91, ReadyIs.all_there, BuildIs, BuildIs.first, BuildIs.by-94, BuildIs.built, ReadIs}
use Rattle.setup.specs.Setup as setup
use Rattle.setup.proofs.Deciding.{ready-accepted}

module _ (s : List ℕ) where
  same-verdict : (k o j p : ℕ) → ControlIs s (refused_by k o) → ControlIs s (refused_by j p) → refuse k o ≡ refuse j p
  same-verdict k o j p c d = ap (λ (x : Control). x.verdict) (control.read-unique s c d)

  module _ (unit : ℕ) (g : Setting) where
    at_unit : (l m : List Entity) → AcceptedWith s l → AcceptedWith s m → (i : ℕ) → UnitAt l unit i → UnitAt m unit i
    at_unit l m a b i u = rw (same-list s unit l m a b) at u

    pub ready-unique : {v w : Verdict} → ReadyIs s unit g v → ReadyIs s unit g w → v ≡ w
    ready-unique (own k o c) (own j p d) = same-verdict k o j p c d
    ready-unique (own k o c) (by-90 l a f) = absurd (not-both s unit k o l c a)
    ready-unique (own k o c) (by-91 l a i u m x f) = absurd (not-both s unit k o l c a)
    ready-unique (own k o c) (all_there r) = ready-accepted (own k o c) r
    ready-unique (by-90 l a f) (own k o c) = absurd (not-both s unit k o l c a)
    ready-unique (by-90 l a f) (by-90 h b e) = refl
    ready-unique (by-90 l a f) (by-91 h b i u m x e) = absurd (f i (at_unit h l b a i u))
    ready-unique (by-90 l a f) (all_there r) = ready-accepted (by-90 l a f) r
    ready-unique (by-91 l a i u m x f) (own k o c) = absurd (not-both s unit k o l c a)
    ready-unique (by-91 l a i u m x f) (by-90 h b e) = absurd (e i (at_unit l h a b i u))
    ready-unique (by-91 l a i u m x f) (by-91 h b j v n y e) = refl
    ready-unique (by-91 l a i u m x f) (all_there r) = ready-accepted (by-91 l a i u m x f) r
    ready-unique (all_there r) (own k o c) = sym (ready-accepted (own k o c) r)
    ready-unique (all_there r) (by-90 l a f) = sym (ready-accepted (by-90 l a f) r)
    ready-unique (all_there r) (by-91 l a i u m x f) = sym (ready-accepted (by-91 l a i u m x f) r)
    ready-unique (all_there r) (all_there q) = refl

    refused-not-ready : (k o : ℕ) → ReadyIs s unit g (refuse k o) → Ready s unit g → ⊥
    refused-not-ready k o h r = apart k o (ready-accepted h r)

    pub verdict-unique : (room : List ℕ) {v w : Verdict} → BuildIs s unit g room v → BuildIs s unit g room w → v ≡ w
    verdict-unique room (first k o h) (first j p i) = ready-unique h i
    verdict-unique room (first k o h) (by-94 r l) = absurd (refused-not-ready k o h r)
    verdict-unique room (first k o h) (built r l) = absurd (refused-not-ready k o h r)
    verdict-unique room (by-94 r l) (first j p i) = absurd (refused-not-ready j p i r)
    verdict-unique room (by-94 r l) (by-94 q m) = refl
    verdict-unique room (by-94 r l) (built q m) = absurd (omega arith)
    verdict-unique room (built r l) (first j p i) = absurd (refused-not-ready j p i r)
    verdict-unique room (built r l) (by-94 q m) = absurd (omega arith)
    verdict-unique room (built r l) (built q m) = refl

    -- the verdict, and what is left in the room
    pub build-unique : (packet room : List ℕ) {v w : Verdict} {x y : List ℕ}
        → BuildIs s unit g room v → x ≡ leaves v packet room → BuildIs s unit g room w → y ≡ leaves w packet room → (v ≡ w) × (x ≡ y)
    build-unique packet room h a i b = let e = verdict-unique room h i in (e, a ∙ (rw e (sym b)))

  module _ (interface : ℕ) (bytes : List ℕ) where
    not-built : (k o : ℕ) → ControlIs s (refused_by k o) → (u : ℕ) (g : Setting) → Ready s u g → ⊥
    not-built k o c u g r = not-both s u k o r.seen c r.accepted

    pub read-unique : {r t : Reading} → ReadIs s interface bytes r → ReadIs s interface bytes t → r ≡ t
    read-unique (setup.ReadIs.own k o c) (setup.ReadIs.own j p d) = let e = same-verdict k o j p c d in let w = same-refusal k o j p e in rw (w.0, w.1)
    read-unique (setup.ReadIs.own k o c) (setup.ReadIs.asks u g q b) = absurd (not-built k o c u g b.ready)
    read-unique (setup.ReadIs.own k o c) (setup.ReadIs.by-95 l a f) = absurd (not-both s 0 k o l c a)
    read-unique (setup.ReadIs.asks u g q b) (setup.ReadIs.own k o c) = absurd (not-built k o c u g b.ready)
    read-unique (setup.ReadIs.asks u g q b) (setup.ReadIs.asks v h p d) =
        let z = packet-different interface u v g h q p (sym b.packet ∙ d.packet) in rw (z.0, z.1, z.2)
    read-unique (setup.ReadIs.asks u g q b) (setup.ReadIs.by-95 l a f) = absurd (f u g q b)
    read-unique (setup.ReadIs.by-95 l a f) (setup.ReadIs.own k o c) = absurd (not-both s 0 k o l c a)
    read-unique (setup.ReadIs.by-95 l a f) (setup.ReadIs.asks u g q b) = absurd (f u g q b)
    read-unique (setup.ReadIs.by-95 l a f) (setup.ReadIs.by-95 m b h) = refl
