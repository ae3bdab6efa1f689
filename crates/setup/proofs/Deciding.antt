-- The answers of `ready`, `build` and `read`, by what their tests and callees say.
use Rattle.std.specs.Prelude.{Ok, Err}
use Rattle.rules.specs.Verdicts.{Verdict, accept, refuse}
use Prim.Native.Nat.{ℕ}
use mathlib.Core.Path.{◌≡◌, refl, sym, ◌∙◌}
use mathlib.Core.List.{List}
use mathlib.Core.Bool.{Bool, true, false}
use lib.ListN.{length}
use lib.Dec.{ltb}
use borrow.Author.Tests.{ltb-true, ltb-false}
use native.Mathlib.Omega.{arith}
use Rattle.rules.specs.IfElse.{if_else}
use Rattle.entities.specs.Table.{no_table}
use Rattle.entities.specs.declared.Table.{Table}
use Rattle.control.specs.Answer.{refused_by, ControlIs}
use Rattle.control.specs.declared.Control.{Control}
use Rattle.control.proofs.ExactlyWhen.{zero-table}
use Rattle.rules.proofs.Verdicts.{apart}
use Rattle.control_map.specs.Answer.{MapIs}
use Rattle.control_map.specs.declared.Map.{Map}
use Rattle.control_map.proofs.Mapping.{the-list}
use Rattle.control_map.proofs.Unique.{same-list, not-both, controls-unique}
use Rattle.camera_settings.specs.declared.Setting.{Setting}
use Rattle.camera_settings.specs.declared.Request.{Request}
use Rattle.packets.specs.Packets.{packet_size, packet_of, room_verdict, leaves, SpeltIs, SpeltIs.spelt, SpeltIs.by-95}
use Rattle.packets.specs.declared.Reading.{Reading}
use Rattle.packets.specs.declared.Reading.TheVariants as reading
use Rattle.packets.proofs.Spelling.{packet-different}
use Rattle.setup.specs.Setup.{Ready, ReadyIs, ReadyIs.own, ReadyIs.by-90, ReadyIs.by-91, ReadyIs.all_there, BuildIs, BuildIs.first, BuildIs.by-94, BuildIs.built, Builds, ReadIs, ReadIs.asks}
use Rattle.setup.specs.Setup as setup
use Rattle.setup.specs.Inner.{is_unit, in_map, asked_by}
use Rattle.setup.proofs.Units as units
use Rattle.setup.proofs.Units.{no-unit, some-unit}
use Rattle.setup.proofs.Maps.{has-setting, setting-told}

-- ---- the block's own refusal
own-refusal : (s : List ℕ) (c : Control) → ControlIs s c → (k o : ℕ) → c.verdict ≡ refuse k o → ControlIs s (refused_by k o)
own-refusal s c r k o e = let t : c.table ≡ no_table = zero-table s r k o e in rw (← e, ← t) r

pub ready-own : (s : List ℕ) (unit : ℕ) (g : Setting) (c : Control) → ControlIs s c → (k o : ℕ) → c.verdict ≡ refuse k o → ReadyIs s unit g c.verdict
ready-own s unit g c r k o e = rw e (own k o (own-refusal s c r k o e))

pub read-own : (s : List ℕ) (interface : ℕ) (bytes : List ℕ) (c : Control) → ControlIs s c → (k o : ℕ) → c.verdict ≡ refuse k o → ReadIs s interface bytes (reading.Refused k o)
read-own s interface bytes c r k o e = setup.ReadIs.own k o (own-refusal s c r k o e)

-- ---- in a block that was accepted with this table
module _ (s : List ℕ) (t : Table) (c : ControlIs s (record { verdict = accept; table = t })) (unit : ℕ) (g : Setting) where
  pub gives-90 : (b : Bool) (r : Verdict) → b ≡ is_unit t unit → b ≡ false → r ≡ refuse 90 0 → ReadyIs s unit g r
  gives-90 b r e n z = rw z (by-90 (the-list s t c).0 (the-list s t c).1 (no-unit s t c unit (sym e ∙ n)))

  module _ (b : Bool) (e : b ≡ is_unit t unit) (y : b ≡ true) (m : Map) (w : MapIs s unit m) (d : Bool) (f : d ≡ in_map m g) where
    pub gives-91 : (r : Verdict) → d ≡ false → r ≡ refuse 91 0 → ReadyIs s unit g r
    gives-91 r n z =
        let u = some-unit s t c unit (sym e ∙ y) in
        rw z (by-91 (the-list s t c).0 (the-list s t c).1 u.0 u.1 m w (λ h. units.not-both (sym (setting-told m g h) ∙ sym f ∙ n)))

    pub gives-ready : d ≡ true → ReadyIs s unit g accept
    gives-ready n =
        let u = some-unit s t c unit (sym e ∙ y) in
        all_there (record {
          seen = (the-list s t c).0;
          accepted = (the-list s t c).1;
          place = u.0;
          is-unit = u.1;
          map = m;
          reads = w;
          has = has-setting s unit m w (the-list s t c).0 (the-list s t c).1 u.0 u.1 g (sym f ∙ n);
        })

-- ---- what a verdict that is known says
is-ready : {s : List ℕ} {unit : ℕ} {g : Setting} {v : Verdict} → ReadyIs s unit g v → v ≡ accept → Ready s unit g
is-ready (own k o c) e = absurd (apart k o e)
is-ready (by-90 l a f) e = absurd (apart 90 0 e)
is-ready (by-91 l a i u m w f) e = absurd (apart 91 0 e)
is-ready (all_there r) e = r

-- a block that has the unit and the setting is not refused
pub ready-accepted : {s : List ℕ} {unit : ℕ} {g : Setting} {v : Verdict} → ReadyIs s unit g v → Ready s unit g → v ≡ accept
ready-accepted {s} {unit} (own k o c) r = absurd (not-both s unit k o r.seen c r.accepted)
ready-accepted {s} {unit} (by-90 l a f) r = absurd (f r.place (rw (same-list s unit r.seen l r.accepted a) at r.is-unit))
ready-accepted {s} {unit} (by-91 l a i u m w f) r = absurd (f (rw (controls-unique s unit r.reads w) at r.has))
ready-accepted (all_there x) r = refl

-- ---- building
module _ (s : List ℕ) (unit : ℕ) (g : Setting) (room : List ℕ) (v : Verdict) (h : ReadyIs s unit g v) where
  pub build-first : (k o : ℕ) → v ≡ refuse k o → BuildIs s unit g room v
  build-first k o e = rw e (first k o (rw e at h))

  pub build-room : (w : Verdict) → v ≡ accept → w ≡ room_verdict room → BuildIs s unit g room w
  unfolding if_else
  build-room w e q = rw q (go (ltb (length room) packet_size) refl)
    where
      go : (b : Bool) → ltb (length room) packet_size ≡ b → BuildIs s unit g room (if_else b (refuse 94 0) accept)
      go true l = by-94 (is-ready h e) (ltb-true (length room) packet_size l)
      go false l = built (is-ready h e) (ltb-false (length room) packet_size l)

pub kept : (v : Verdict) (k o : ℕ) (packet room : List ℕ) → v ≡ refuse k o → room ≡ leaves v packet room
kept v k o packet room e = rw e

-- ---- reading back, in a block that was accepted with this table
module _ (s : List ℕ) (t : Table) (c : ControlIs s (record { verdict = accept; table = t })) (interface : ℕ) (bytes : List ℕ) where
  none : ((u : ℕ) (g : Setting) (q : Request) → Builds s interface bytes u g q → ⊥) → ReadIs s interface bytes (reading.Refused 95 0)
  none f = setup.ReadIs.by-95 (the-list s t c).0 (the-list s t c).1 f

  pub read_none : {r : Reading} (k o : ℕ) → r ≡ reading.Refused k o → SpeltIs interface bytes r → ReadIs s interface bytes r
  read_none k o e (spelt u g q p) = absurd (let z : ◌≡◌ {A = ℕ} 0 1 = cc in omega arith)
  read_none k o e (by-95 f) = none (λ u g q b. f u g q b.packet)

  asked_by_lem : (u : ℕ) (g : Setting) (q : Request) → bytes ≡ packet_of interface u g q → (v : Verdict) → ReadyIs s u g v → ReadIs s interface bytes (asked_by v u g q)
  asked_by_lem u g q e (Ok _) h = asks u g q (record { ready = is-ready h refl; packet = e })
  asked_by_lem u g q e (Err r) h =
      none (λ x y z b. let d = packet-different interface x u y g z q (sym b.packet ∙ e) in
      apart r.number r.offset (ready-accepted h (rw (d.0, d.1) at b.ready)))

  pub read_asked : {x : Reading} (u : ℕ) (g : Setting) (q : Request) → x ≡ reading.Asks u g q → SpeltIs interface bytes x
      → (v : Verdict) → ReadyIs s u g v → (r : Reading) → r ≡ asked_by v u g q → ReadIs s interface bytes r
  read_asked u g q e (spelt y d p f) v h r z =
      let a : y ≡ u = cc in
      let b : d ≡ g = cc in
      let k : p ≡ q = cc in
      rw z (asked_by_lem u g q (rw (a, b, k) at f) v h)
  read_asked u g q e (by-95 f) v h r z = absurd (let n : ◌≡◌ {A = ℕ} 0 1 = cc in omega arith)
