-- The test of a setting's bit, of a map that the map reader gives a processing unit.
use Prim.Native.Nat.{ℕ, ◌+◌, ◌*◌, ◌/◌, ◌%◌, ◌<◌, ◌^◌}
use mathlib.Core.Path.{◌≡◌, refl, sym, ◌∙◌}
use mathlib.Core.List.{List}
use mathlib.Core.Bool.{Bool, true, false}
use lib.ListN.{get_or}
use lib.Dec.{ltb}
use borrow.Author.Tests.{ltb-true, ltb-false, eqb-true, eq-eqb}
use native.Mathlib.Omega.{arith}
use Rattle.le.specs.Le.{byte}
use Rattle.entities.specs.Table.{entity_at}
use Rattle.entities.specs.declared.Entity.{Entity}
use Rattle.control_map.specs.Answer.{AcceptedWith, MapIs, control_byte, first_controls, control_bytes, controls_at}
use Rattle.control_map.specs.declared.Map.{Map}
use Rattle.control_map.proofs.Bytes.{behind-zero}
use Rattle.control_map.proofs.ExactlyWhen.{processing-bytes}
use Rattle.camera_settings.specs.Numbers.{bit_of}
use Rattle.camera_settings.specs.declared.Setting.{Setting}
use Rattle.camera_settings.proofs.Known.{each-setting}
use Rattle.setup.specs.Setup.{UnitAt, InMap}
use Rattle.setup.specs.Inner.{in_map}

-- the four bits are all in the first byte
first_byte : (b : List ℕ) (c : Setting) → get_or b (bit_of c / 8) 0 / 2 ^ (bit_of c % 8) % 2 ≡ get_or b 0 0 / 2 ^ bit_of c % 2
first_byte b = each-setting (λ c. get_or b (bit_of c / 8) 0 / 2 ^ (bit_of c % 8) % 2 ≡ get_or b 0 0 / 2 ^ bit_of c % 2) refl refl refl refl

few_bits : (c : Setting) → bit_of c < 8
few_bits = each-setting (λ c. bit_of c < 8) (omega arith) (omega arith) (omega arith) (omega arith)

no-bit : (c : Setting) → 0 / 2 ^ bit_of c % 2 ≡ 0
no-bit = each-setting (λ c. 0 / 2 ^ bit_of c % 2 ≡ 0) refl refl refl refl

first-place : (s : List ℕ) (o n : ℕ) → get_or (control_bytes s o n) 0 0 ≡ control_byte s o n 0
unfolding first_controls
first-place s o n = refl

-- behind the map's end there is no bit
within : (s : List ℕ) (o n : ℕ) (c : Setting) → get_or (control_bytes s o n) 0 0 / 2 ^ bit_of c % 2 ≡ 1 → bit_of c < 8 * n
within s o n c e = go (ltb 0 n) refl
  where
    go : (t : Bool) → ltb 0 n ≡ t → bit_of c < 8 * n
    go true h = omega (arith, ltb-true 0 n h, few_bits c)
    go false h =
        let z : get_or (control_bytes s o n) 0 0 ≡ 0 = first-place s o n ∙ behind-zero s o n 0 (ltb-false 0 n h) in
        absurd (omega (arith, no-bit c, rw z at e))

module _ (s : List ℕ) (id : ℕ) (m : Map) (r : MapIs s id m) (l : List Entity) (a : AcceptedWith s l) (i : ℕ) (u : UnitAt l id i) where
  the-map : m ≡ controls_at s (entity_at l i).offset 7
  the-map = processing-bytes s id m r l a i u.inside u.named u.kind

  pub has-setting : (c : Setting) → in_map m c ≡ true → InMap m c
  unfolding in_map
  has-setting c y =
      let e : get_or m.bytes 0 0 / 2 ^ bit_of c % 2 ≡ 1 = eqb-true (get_or m.bytes 0 0 / 2 ^ bit_of c % 2) 1 y in
      record { within = rw the-map (within s ((entity_at l i).offset + 7 + 1) (byte s (entity_at l i).offset 7) c (rw the-map at e)); set = first_byte m.bytes c ∙ e }

pub setting-told : (m : Map) (c : Setting) → InMap m c → in_map m c ≡ true
unfolding in_map
setting-told m c h = eq-eqb (get_or m.bytes 0 0 / 2 ^ bit_of c % 2) 1 (sym (first_byte m.bytes c) ∙ h.set)
