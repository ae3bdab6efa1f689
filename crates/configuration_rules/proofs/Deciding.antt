-- The tests decide what the words say.
use Prim.Native.Nat.{ℕ, ◌+◌, ◌<◌}
use mathlib.Core.Path.{◌≡◌, refl, sym}
use mathlib.Core.List.{List}
use mathlib.Core.Bool.{Bool, true, false, ◌&&◌, ◌||◌, true≢false}
use mathlib.Core.Logic.{◌⊎◌, inl, inr, ⊎_elim, ◌↔◌}
use lib.ListN.{length}
use lib.Dec.{ltb, eqb}
use borrow.Author.Tests.{le-ltb, ltb-false, eq-eqb, eqb-true, not-false}
use native.Mathlib.Omega.{arith}
use Rattle.le.specs.Le.{byte}
use Rattle.rules.specs.IfElse.{if_else}
use Rattle.rules.proofs.Rows.{or-first, or-second, or-either, and_first, and_second}
use Rattle.blocks.specs.Blocks.{len_at, descriptor_type}
use Rattle.configuration_rules.specs.Descriptors.{interface_type, endpoint_type, video_class, control_subclass, streaming_subclass, type_at, address_at, class_at, subclass_at, least_of, broken_at, subclass_of, is_video, is_endpoint, is_sought}
use Rattle.configuration_rules.specs.Words.{Kept, Video, ControlFirst, StreamingFirst, SettingOf, ClassSpecific, EndpointOf}
use Rattle.configuration_rules.specs.declared.Sought.TheVariants.{Control, Listed, Setting, Outside, Endpoint}

module _ (s : List ℕ) (o : ℕ) where
  -- 70 is broken exactly where it is not kept
  pub kept : (broken_at s o ≡ false) ↔ Kept s o
  unfolding broken_at
  kept = (
    λ h. let a = ltb (len_at s o) 2 in
        let b = ltb (length s) (o + len_at s o) in
        let c = ltb (len_at s o) (least_of (type_at s o)) in
        let r = or-second a (b || c) h in
        record { two = ltb-false (len_at s o) 2 (or-first a (b || c) h); inside = ltb-false (length s) (o + len_at s o) (or-first b c r); long = ltb-false (len_at s o) (least_of (type_at s o)) (or-second b c r) },
    λ k. rw (le-ltb (len_at s o) 2 k.two, le-ltb (length s) (o + len_at s o) k.inside, le-ltb (len_at s o) (least_of (type_at s o)) k.long),
  )

  -- a subclass that is not 0 is that of a video interface
  video-of : (c : ℕ) → 0 < c → subclass_of s o ≡ c → Video s c o
  unfolding subclass_of if_else
  video-of c p h = go (eqb (type_at s o) interface_type) refl (eqb (class_at s o) video_class) refl h
    where
      go : (a : Bool) → eqb (type_at s o) interface_type ≡ a → (b : Bool) → eqb (class_at s o) video_class ≡ b → if_else a (if_else b (subclass_at s o) 0) 0 ≡ c → Video s c o
      go false x b y q = absurd (omega arith)
      go true x false y q = absurd (omega arith)
      go true x true y q = record { interface = eqb-true _ _ x; class = eqb-true _ _ y; sub = q }

  of-video : (c : ℕ) → Video s c o → subclass_of s o ≡ c
  unfolding subclass_of if_else
  of-video c v = rw (eq-eqb (type_at s o) interface_type v.interface, eq-eqb (class_at s o) video_class v.class) v.sub

  pub video : (c k x : ℕ) → 0 < c → (is_video s o c k x ≡ true) ↔ (Video s c o × (byte s o k ≡ x))
  unfolding is_video if_else
  video c k x p = (to (eqb (subclass_of s o) c) refl, λ v. rw (eq-eqb (subclass_of s o) c (of-video c v.0), eq-eqb (byte s o k) x v.1))
    where
      to : (b : Bool) → eqb (subclass_of s o) c ≡ b → if_else b (eqb (byte s o k) x) false ≡ true → Video s c o × (byte s o k ≡ x)
      to true e h = (video-of c p (eqb-true _ _ e), eqb-true _ _ h)
      to false e h = absurd (true≢false (sym h))

  pub control : (is_sought Control s o ≡ true) ↔ ControlFirst s o
  unfolding is_sought
  control =
      let v = video control_subclass 3 0 (omega arith) in
      (λ h. let p = v.0 h in record { video = p.0; first = p.1 }, λ c. v.1 (c.video, c.first))

  pub listed : (is_sought Listed s o ≡ true) ↔ StreamingFirst s o
  unfolding is_sought
  listed =
      let v = video streaming_subclass 3 0 (omega arith) in
      (λ h. let p = v.0 h in record { video = p.0; first = p.1 }, λ c. v.1 (c.video, c.first))

  pub setting : (n : ℕ) → (is_sought (Setting n) s o ≡ true) ↔ SettingOf s n o
  unfolding is_sought
  setting n =
      let v = video streaming_subclass 2 n (omega arith) in
      (λ h. let p = v.0 h in record { video = p.0; number = p.1 }, λ c. v.1 (c.video, c.number))

  pub outside : (is_sought Outside s o ≡ false) ↔ ClassSpecific s o
  unfolding is_sought
  outside = (λ h. eqb-true _ _ (not-false (eqb (type_at s o) descriptor_type) h), λ c. rw (eq-eqb (type_at s o) descriptor_type c))

  -- the endpoint, or the next interface descriptor
  pub endpoint : (a : ℕ) → (is_sought (Endpoint a) s o ≡ true) ↔ ((type_at s o ≡ interface_type) ⊎ EndpointOf s a o)
  unfolding is_sought is_endpoint
  endpoint a =
      let i = eqb (type_at s o) interface_type in
      let e = eqb (type_at s o) endpoint_type in
      let x = eqb (address_at s o) a in
      let t = or-either i (e && x) in (
        λ h. ⊎_elim (λ p. inl (eqb-true _ _ p)) (λ p. inr (record { endpoint = eqb-true _ _ (and_first e x p); address = eqb-true _ _ (and_second e x p) })) (t.0 h),
        λ h. t.1 (⊎_elim (λ p. inl (eq-eqb (type_at s o) interface_type p)) (λ p. inr (rw (eq-eqb (type_at s o) endpoint_type p.endpoint, eq-eqb (address_at s o) a p.address))) h),
      )
