-- Building and reading back is the identity, both ways; 95 exactly when nothing builds the bytes; what building leaves of the room. All of what the promises of
-- `build` and `read` allow.
use Rattle.std.specs.Prelude.{Err, Ok}
use Rattle.rules.specs.Verdicts.{Verdict, accept, refuse}
use Prim.Native.Nat.{ℕ, ◌≤◌}
use mathlib.Core.Path.{◌≡◌, refl}
use mathlib.Core.List.{List, ◌++◌}
use mathlib.Core.Logic.{◌↔◌}
use lib.ListN.{length, take, drop, replicate}
use native.Mathlib.Omega.{arith}
use Rattle.entities.specs.declared.Entity.{Entity}
use Rattle.rules.proofs.Verdicts.{apart}
use Rattle.control_map.specs.Answer.{AcceptedWith}
use Rattle.control_map.proofs.ExactlyWhen.{own-number, own_first}
use Rattle.camera_settings.specs.declared.Setting.{Setting}
use Rattle.camera_settings.specs.declared.Request.{Request}
use Rattle.packets.specs.Packets.{packet_size, packet_of, leaves}
use Rattle.packets.specs.declared.Reading.{Reading}
use Rattle.packets.specs.declared.Reading.TheVariants as reading
use Rattle.setup.specs.Setup.{Ready, BuildIs, BuildIs.first, BuildIs.by-94, BuildIs.built, Builds, ReadIs}
use Rattle.setup.specs.Setup as setup
use Rattle.setup.proofs.Unique.{build-unique, read-unique}

-- what the promise of `build` allows: this verdict, with this left in the room
pub record Promised (s : List ℕ) (interface unit : ℕ) (c : Setting) (q : Request) (room : List ℕ) (v : Verdict) (left : List ℕ) : Type 0 where
  pub verdict : BuildIs s unit c room v
  pub bytes : left ≡ leaves v (packet_of interface unit c q) room

built-ready : {s : List ℕ} {unit : ℕ} {c : Setting} {room : List ℕ} {v : Verdict} → BuildIs s unit c room v → v ≡ accept → Ready s unit c
built-ready (first k o h) e = absurd (apart k o e)
built-ready (by-94 r l) e = r
built-ready (built r l) e = r

module _ (s : List ℕ) (interface : ℕ) where
  -- what the builder writes is what `Builds` says, and the other way
  pub writes : (unit : ℕ) (c : Setting) (q : Request) (room left : List ℕ) → Promised s interface unit c q room accept left → Builds s interface (take packet_size left) unit c q
  writes unit c q room left p = record { ready = built-ready p.verdict refl; packet = rw p.bytes }

  pub written : (bytes : List ℕ) (unit : ℕ) (c : Setting) (q : Request) → Builds s interface bytes unit c q
      → (room : List ℕ) → packet_size ≤ length room → Promised s interface unit c q room accept (bytes ++ drop packet_size room)
  written bytes unit c q b room h = record { verdict = built b.ready h; bytes = rw b.packet }

  -- BUILT, THEN READ: the unit, the setting and the request
  pub reads-built : (unit : ℕ) (c : Setting) (q : Request) (room left : List ℕ) → Promised s interface unit c q room accept left
      → (r : Reading) → ReadIs s interface (take packet_size left) r → r ≡ reading.Asks unit c q
  reads-built unit c q room left p r h = read-unique s interface (take packet_size left) h (setup.ReadIs.asks unit c q (writes unit c q room left p))

  asked : {bytes : List ℕ} {unit : ℕ} {c : Setting} {q : Request} {r : Reading} → ReadIs s interface bytes r → r ≡ reading.Asks unit c q → Builds s interface bytes unit c q
  asked (setup.ReadIs.own k o d) e = absurd (let z : ◌≡◌ {A = ℕ} 0 1 = cc in omega arith)
  asked {unit = u} {c = g} {q = p} (setup.ReadIs.asks v h n b) e = let x : v ≡ u = cc in let y : h ≡ g = cc in let z : n ≡ p = cc in rw (← x, ← y, ← z) b
  asked (setup.ReadIs.by-95 l a f) e = absurd (let z : ◌≡◌ {A = ℕ} 0 1 = cc in omega arith)

  -- READ, THEN BUILT: the bytes, in any room that has 8, and the rest as it was
  pub builds-read : (bytes : List ℕ) (unit : ℕ) (c : Setting) (q : Request) → ReadIs s interface bytes (reading.Asks unit c q)
      → (room : List ℕ) → packet_size ≤ length room → (v : Verdict) (left : List ℕ) → Promised s interface unit c q room v left
      → (v ≡ accept) × (left ≡ bytes ++ drop packet_size room)
  builds-read bytes unit c q h room l v left p =
      let w = written bytes unit c q (asked h refl) room l in
      build-unique s unit c (packet_of interface unit c q) room p.verdict p.bytes w.verdict w.bytes

  -- 95: the block is accepted, and no unit, setting and request builds these bytes, in any room
  pub record NoneBuilds (bytes : List ℕ) : Type 0 where
    pub seen : List Entity
    pub accepted : AcceptedWith s seen
    pub none : (unit : ℕ) (c : Setting) (q : Request) (room left : List ℕ) → Promised s interface unit c q room accept left → take packet_size left ≡ bytes → ⊥

  to_none : {bytes : List ℕ} {r : Reading} → ReadIs s interface bytes r → r ≡ reading.Refused 95 0 → NoneBuilds bytes
  to_none (setup.ReadIs.own k o c) e = absurd (let z : k ≡ 95 = cc in omega (arith, own-number s 0 (own_first s 0 k o c)))
  to_none (setup.ReadIs.asks u g q b) e = absurd (let z : ◌≡◌ {A = ℕ} 0 1 = cc in omega arith)
  to_none (setup.ReadIs.by-95 l a f) e = record { seen = l; accepted = a; none = λ u g q room left p x. f u g q (rw x at (writes u g q room left p)) }

  from-none : (bytes : List ℕ) → NoneBuilds bytes → ReadIs s interface bytes (reading.Refused 95 0)
  from-none bytes n =
      setup.ReadIs.by-95 n.seen n.accepted
      (λ u g q b. let room : List ℕ = replicate packet_size 0 in n.none u g q room _ (written bytes u g q b room (omega arith)) (rw b.packet))

  pub ninety-five-given : (bytes : List ℕ) (r : Reading) → ReadIs s interface bytes r → (r ≡ reading.Refused 95 0) ↔ NoneBuilds bytes
  ninety-five-given bytes r h = (to_none h, λ n. read-unique s interface bytes h (from-none bytes n))

  -- a refusal changes no byte, and past the eighth none changes at all
  pub refused-keeps : (unit : ℕ) (c : Setting) (q : Request) (room left : List ℕ) (k o : ℕ) → Promised s interface unit c q room (refuse k o) left → left ≡ room
  refused-keeps unit c q room left k o p = p.bytes

  past_by : (unit : ℕ) (c : Setting) (q : Request) (room : List ℕ) (v : Verdict) → drop packet_size (leaves v (packet_of interface unit c q) room) ≡ drop packet_size room
  past_by unit c q room (Ok _) = refl
  past_by unit c q room (Err r) = refl

  pub past-kept : (unit : ℕ) (c : Setting) (q : Request) (room left : List ℕ) (v : Verdict) → Promised s interface unit c q room v left → drop packet_size left ≡ drop packet_size room
  past-kept unit c q room left v p = rw p.bytes (past_by unit c q room v)
