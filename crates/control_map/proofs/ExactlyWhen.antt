-- The block's own refusal exactly when the block is refused; 16 at 0 exactly when it is accepted and no camera terminal or processing unit has the ID; else the
-- control size at the place that the document names, and as many bytes behind it.
use Rattle.rules.specs.Verdicts.{accept}
use Prim.Native.Nat.{ℕ, ◌+◌, ◌≤◌, ◌<◌}
use mathlib.Core.Path.{◌≡◌, refl, sym, ◌∙◌, ap}
use mathlib.Core.List.{List}
use mathlib.Core.Logic.{◌↔◌}
use lib.ListN.{length}
use native.Mathlib.Omega.{arith}
use Rattle.le.specs.Le.{byte}
use Rattle.entities.specs.Table.{entity_at}
use Rattle.entities.specs.declared.Entity.{Entity}
use Rattle.control_rules.specs.Descriptors.{input, revision_of, known_as, kind_of, kind_at, len_at, terminal_of, camera, ControlsAt, ControlsAt.camera-terminal, ControlsAt.processing-unit}
use Rattle.control_rules.proofs.Within.{controls-within}
use Rattle.control_rules.proofs.Subtypes.{entity-known}
use Rattle.control.specs.Answer.{refused_by, ControlIs}
use Rattle.control.specs.Broken.{FirstBroken, FirstBroken.by-block, FirstBroken.by-descriptor, FirstBroken.by-13, FirstBroken.by-14, FirstBroken.by-15}
use Rattle.rules.proofs.Verdicts as verdicts
use Rattle.control.proofs.ExactlyWhen.{refused, from_first, head_few, rows_few}
use Rattle.control_map.specs.Answer.{HasControls, AcceptedWith, controls_at, refused_map, MapIs, MapIs.own, MapIs.given, MapIs.sixteen, Unmapped, MappedAt}
use Rattle.control_map.specs.declared.Map.{Map}
use Rattle.control_map.proofs.Mapping.{entities-listed, mapped-once, place-else, place_is, apart}
use Rattle.control_map.proofs.Unique.{controls-unique}

verdict-of : (r t : Map) → r ≡ t → r.verdict ≡ t.verdict
verdict-of r t e = ap (λ (m : Map). m.verdict) e

-- what is given is no refusal
given-apart : (s : List ℕ) (o n k p : ℕ) → controls_at s o n ≡ refused_map k p → ⊥
given-apart s o n k p e = verdicts.apart k p (sym (verdict-of _ _ e))

same_number : (j p k o : ℕ) → refused_map j p ≡ refused_map k o → (j ≡ k) × (p ≡ o)
same_number j p k o e = verdicts.same-refusal j p k o (verdict-of _ _ e)

-- an input terminal with controls is a camera; nothing but input terminals and processing units has any
of-camera : {t n : ℕ} → ControlsAt input t n → t ≡ camera
of-camera (camera-terminal t e) = e

pub only-these : (t x : ℕ) → (x ≡ 2 → ⊥) → (x ≡ 5 → ⊥) → (n : ℕ) → ControlsAt (kind_of x) t n → ⊥
only-these t x a b n h = apart n (place-else t x a b ∙ place_is h)

module _ (s : List ℕ) (id : ℕ) where
  -- a control block's own numbers end at 15
  pub own-number : {k o : ℕ} → FirstBroken s k o → k < 16
  own-number (by-block k g) = omega (arith, head_few s g)
  own-number (by-descriptor k o z f) = omega (arith, rows_few s f)
  own-number (by-13 l o z h r f) = omega arith
  own-number (by-14 l o z h r a f) = omega arith
  own-number (by-15 l o z h r a b f) = omega arith

  pub own_first : (k o : ℕ) → ControlIs s (refused_by k o) → FirstBroken s k o
  own_first k o c = (refused s (refused_by k o) c k o).0 refl

  to-own : {r : Map} → MapIs s id r → (k o : ℕ) → k < 16 → r ≡ refused_map k o → FirstBroken s k o
  to-own (own j p c) k o l e = let z = same_number j p k o e in rw (← z.0, ← z.1) (own_first j p c)
  to-own (given l a i n m) k o h e = absurd (given-apart s _ n k o e)
  to-own (sixteen l a n) k o h e = absurd (let z = (same_number 16 0 k o e).0 in omega arith)

  -- THE BLOCK'S OWN REFUSAL, with its number and offset
  pub own-given : (r : Map) → MapIs s id r → (k o : ℕ) → k < 16 → (r ≡ refused_map k o) ↔ FirstBroken s k o
  own-given r m k o h = (to-own m k o h, λ f. controls-unique s id m (own k o (from_first s f)))

  to-sixteen : {r : Map} → MapIs s id r → r ≡ refused_map 16 0 → Unmapped s id
  to-sixteen (own j p c) e = absurd (let x = (same_number j p 16 0 e).0 in omega (arith, own-number (own_first j p c)))
  to-sixteen (given l a i n m) e = absurd (given-apart s _ n 16 0 e)
  to-sixteen (sixteen l a n) e = record { seen = l; with = a; none = n }

  pub sixteen-given : (r : Map) → MapIs s id r → (r ≡ refused_map 16 0) ↔ Unmapped s id
  sixteen-given r m = (to-sixteen m, λ u. controls-unique s id m (sixteen u.seen u.with u.none))

  to-bytes : {r : Map} → MapIs s id r → r.verdict ≡ accept → MappedAt s id r
  to-bytes (own j p q) e = absurd (verdicts.apart j p e)
  to-bytes (given l w i n m) e = record { seen = l; with = w; entity = i; place = n; mapped = m; bytes = refl }
  to-bytes (sixteen l w n) e = absurd (verdicts.apart 16 0 e)

  pub bytes-given : (r : Map) → MapIs s id r → (r.verdict ≡ accept) ↔ MappedAt s id r
  bytes-given r m = (to-bytes m, λ u. verdict-of _ _ u.bytes)

  -- ---- an entity of the ID, in an accepted block
  module _ (r : Map) (m : MapIs s id r) (l : List Entity) (a : AcceptedWith s l) (i : ℕ) (inside : i < length l) (named : (entity_at l i).id ≡ id) where
    mapped : (n : ℕ) → HasControls (entity_at l i) n → r ≡ controls_at s (entity_at l i).offset n
    mapped n h = controls-unique s id m (given l a i n (record { inside = inside; named = named; has = h }))

    -- a camera terminal's control size is its byte 14, and its controls stand from 15 on; a processing unit's is its byte 7, and they stand from 8 on
    pub camera-bytes : (entity_at l i).kind ≡ 2 → (entity_at l i).terminal ≡ camera → r ≡ controls_at s (entity_at l i).offset 14
    unfolding kind_of
    camera-bytes k t = mapped 14 (rw k (camera-terminal (entity_at l i).terminal t))

    pub processing-bytes : (entity_at l i).kind ≡ 5 → r ≡ controls_at s (entity_at l i).offset 7
    unfolding kind_of
    processing-bytes k = mapped 7 (rw k (processing-unit (entity_at l i).terminal))

    -- any other entity's ID is 16: an encoding unit's, an output terminal's, that of an input terminal that is no camera
    unmapped : ((n : ℕ) → HasControls (entity_at l i) n → ⊥) → r ≡ refused_map 16 0
    unmapped z =
        (sixteen-given r m).1
        (record { seen = l; with = a; none = λ j n q. let e : j ≡ i = mapped-once s l a id j n i q named inside in z n (rw e at q.has) })

    pub other-kind : ((entity_at l i).kind ≡ 2 → ⊥) → ((entity_at l i).kind ≡ 5 → ⊥) → r ≡ refused_map 16 0
    other-kind x y = unmapped (only-these (entity_at l i).terminal (entity_at l i).kind x y)

    pub other-terminal : (entity_at l i).kind ≡ 2 → ((entity_at l i).terminal ≡ camera → ⊥) → r ≡ refused_map 16 0
    unfolding kind_of
    other-terminal k t = unmapped (λ n h. t (of-camera (rw k at h)))

-- ID 0 is no entity's
pub zero-sixteen : (s : List ℕ) (r : Map) → MapIs s 0 r → (l : List Entity) → AcceptedWith s l → r ≡ refused_map 16 0
zero-sixteen s r m l a =
    (sixteen-given s 0 r m).1
    (record { seen = l; with = a; none = λ j n q. ((entities-listed s l a).entities j q.inside).nonzero q.named })

-- the controls are at most 32 and lie within the entity's descriptor, and that within the block
pub controls-inside : (s : List ℕ) (l : List Entity) → AcceptedWith s l → (i n : ℕ) → i < length l → HasControls (entity_at l i) n
    → (n + 1 + byte s (entity_at l i).offset n ≤ len_at s (entity_at l i).offset) × (byte s (entity_at l i).offset n ≤ 32) × ((entity_at l i).offset + len_at s (entity_at l i).offset ≤ length s)
controls-inside s l a i n h c =
    let w = (entities-listed s l a).entities i h in
    let e = entity_at l i in
    let k : e.kind ≡ byte s e.offset 2 = ap (λ (x : Entity). x.kind) w.same in
    let m : known_as (revision_of s) (byte s e.offset 2) ≡ byte s e.offset 2 = entity-known (revision_of s) (byte s e.offset 2) w.entity in
    let t : e.terminal ≡ terminal_of (kind_at s e.offset) s e.offset = ap (λ (x : Entity). x.terminal) w.same in
    let c' : ControlsAt (kind_at s e.offset) e.terminal n = rw (← m) at (rw k at c) in
    let z = controls-within c' s e.offset w.shaped t in
    (z.0, z.1, w.shaped.inside)
