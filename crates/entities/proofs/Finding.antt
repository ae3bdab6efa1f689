-- What is found is the first used place that carries the ID; and one step of the search.
use Rattle.std.specs.Prelude.{None, Option, Some}
use Prim.Native.Nat.{ℕ, zero, suc, ◌+◌, ◌-◌, ◌≤◌, ◌<◌}
use mathlib.Core.Path.{◌≡◌, refl, sym, ap, ◌∙◌, subst}
use mathlib.Core.Bool.{Bool, true, false}
use mathlib.Core.List.{List, [], ◌∷◌, ◌++◌, map, append-nil}
use mathlib.Core.Logic.{⊎_elim}
use lib.Dec.{leb, eqb}
use lib.ListN.{length, take, drop, get_or, set, replicate, length-map, length-take, length-drop}
use lib.Seq.{drop-cons, get_or-take, take-suc, take_all, take-length, take-take, take-append-le, set_out}
use native.Mathlib.Numerals.{add-one}
use native.Mathlib.Omega.{arith}
use borrow.Author.Tests.{eq-eqb, ne_eqb, eqb-true, eqb-false, leb-true, leb-false}
use Rattle.rules.specs.IfElse.{if_else}
use Rattle.rules.specs.Pad.{pad}
use Rattle.rules.specs.First.{First}
use Rattle.rules.proofs.Firsts.{lt-or-ge, first-unique}
use Rattle.rules.proofs.Lists.{no-elements}
use Rattle.rules.proofs.Padded.{pad-set, pad-length}
use Rattle.entities.specs.Table.{entities_most, no_entity, entity_at, find_from, found_among}
use Rattle.entities.specs.declared.Entity.{Entity}

-- the place that an answer names, counted from i; n places further for none
abbrev pub place_of : ℕ → Option ℕ → ℕ
place_of n (Some i) = i
place_of n None = n

-- the entity at a place carries the ID
abbrev pub Carries : List Entity → ℕ → ℕ → Type 0
Carries l id i = (entity_at l i).id ≡ id

-- what a search from place i on answers
pub data Sought (l : List Entity) (id i : ℕ) : Option ℕ → Type 0 where
  hit : (j : ℕ) → j < length l → First (Carries l id) (length l) j → Sought l id i (Some (i + j))
  missed : First (Carries l id) (length l) (length l) → Sought l id i None

sought : (l : List Entity) (id i : ℕ) → Sought l id i (find_from i l id)
unfolding find_from if_else
sought [] id i = missed (record { within = omega arith; before = λ j h. absurd (omega arith); here = λ h. absurd (omega arith) })
sought (e ∷ l) id i = go (eqb e.id id) refl (find_from (suc i) l id) (sought l id (suc i))
  where
    back : (j : ℕ) → (e.id ≡ id → ⊥) → First (Carries l id) (length l) j → First (Carries (e ∷ l) id) (suc (length l)) (suc j)
    back j n f = record { within = omega (arith, f.within); before = b; here = λ h. f.here (omega arith) }
      where
        b : (k : ℕ) → k < suc j → Carries (e ∷ l) id k → ⊥
        b zero h q = n q
        b (suc k) h q = f.before k (omega arith) q

    on : (n : e.id ≡ id → ⊥) (r : Option ℕ) → Sought l id (suc i) r → Sought (e ∷ l) id i r
    on n r (hit j h f) =
        let z : suc i + j ≡ i + suc j = omega arith in
        rw z (hit (suc j) (omega arith) (back j n f))
    on n r (missed f) = missed (back (length l) n f)

    go : (b : Bool) → eqb e.id id ≡ b → (r : Option ℕ) → Sought l id (suc i) r → Sought (e ∷ l) id i (if_else b (Some i) r)
    go true q r w =
        let z : i ≡ i + 0 = omega arith in
        let y : Sought (e ∷ l) id i (Some (i + 0)) = hit 0 (omega arith) (record { within = omega arith; before = λ j h. absurd (omega arith); here = λ h. eqb-true e.id id q }) in
        rw (← z) at y
    go false q r w = on (eqb-false e.id id q) r w

-- an ID is found at the first used place that carries it, and nowhere where none does
pub found_first : (l : List Entity) (id : ℕ) → First (Carries l id) (length l) (place_of (length l) (find_from 0 l id))
found_first l id = go (find_from 0 l id) (sought l id 0)
  where
    go : (r : Option ℕ) → Sought l id 0 r → First (Carries l id) (length l) (place_of (length l) r)
    go r (hit j h f) = let z : 0 + j ≡ j = omega arith in rw z f
    go r (missed f) = f

-- the same of both lookups: the first of the n used places, or none
pub find_first : (l : List Entity) (n id : ℕ) → First (Carries (take n l) id) (length (take n l)) (place_of (length (take n l)) (found_among l n id))
find_first l n id = found_first (take n l) id

-- a place that is found is one of the list's
pub found_within : (l : List Entity) (id j : ℕ) → find_from 0 l id ≡ Some j → j < length l
found_within l id j e = go (find_from 0 l id) (sought l id 0) e
  where
    go : (r : Option ℕ) → Sought l id 0 r → r ≡ Some j → j < length l
    go r (hit k h f) q = let z : 0 + k ≡ j = cc in omega arith
    go r (missed f) q = absurd (let z : ◌≡◌ {A = ℕ} 0 1 = cc in omega arith)

-- the place that a scan of a list finds is the one that the search finds
pub absent : (l : List Entity) (id : ℕ) → ((i : ℕ) → i < length l → Carries l id i → ⊥) → None ≡ find_from 0 l id
absent l id h = go (find_from 0 l id) refl
  where
    go : (f : Option ℕ) → find_from 0 l id ≡ f → None ≡ f
    go None e = refl
    go (Some j) e = let w = found_within l id j e in absurd (h j w ((rw e at (found_first l id)).here w))

pub present : (l : List Entity) (id r : ℕ) → r < length l → First (Carries l id) (length l) r → Some r ≡ find_from 0 l id
present l id r h w = go (find_from 0 l id) refl
  where
    go : (f : Option ℕ) → find_from 0 l id ≡ f → Some r ≡ f
    go None e = absurd ((rw e at (found_first l id)).before r h (w.here h))
    go (Some j) e = ap Some (first-unique (Carries l id) (length l) r j w (rw e at (found_first l id)))

-- ---- lent places, taken apart into a table of `places`: the first i of them by value
module _ (places : ℕ) where
  abbrev pub taken_to : List Entity → ℕ → List Entity
  taken_to l i = pad places no_entity (take places (take i l))

  module _ (l : List Entity) where
    -- one more
    pub taken_more : (i : ℕ) → i < length l → set (taken_to l i) i (entity_at l i) ≡ taken_to l (i + 1)
    taken_more i h = ⊎_elim inside outside (lt-or-ge i places)
      where
        more : take (i + 1) l ≡ take i l ++ (entity_at l i ∷ [])
        more = rw (add-one i) (take-suc l i no_entity h)

        inside : i < places → set (taken_to l i) i (entity_at l i) ≡ taken_to l (i + 1)
        inside b =
            let n : length (take i l) ≡ i = simp length-take (omega arith) in
            let t : take places (take i l) ≡ take i l = take_all places (take i l) (omega arith) in
            let m : length (take (i + 1) l) ≤ places = simp length-take (omega arith) in
            let u : take places (take (i + 1) l) ≡ take (i + 1) l = take_all places (take (i + 1) l) m in
            rw (t, u, more)
            (subst (λ (k : ℕ). set (pad places no_entity (take i l)) k (entity_at l i) ≡ pad places no_entity (take i l ++ (entity_at l i ∷ []))) n
            (pad-set places no_entity (take i l) (entity_at l i) (omega arith)))

        outside : places ≤ i → set (taken_to l i) i (entity_at l i) ≡ taken_to l (i + 1)
        outside b =
            let n : length (take places (take i l)) ≤ places = simp length-take (omega arith) in
            let e : length (taken_to l i) ≤ i = omega (arith, pad-length places no_entity (take places (take i l)) n) in
            set_out (taken_to l i) i (entity_at l i) e ∙ (rw (take-take places i l b, take-take places (i + 1) l (omega arith)))

    -- all of them
    pub taken-all : (i : ℕ) → i ≡ length l → taken_to l i ≡ pad places no_entity (take places l)
    taken-all i e = rw (e, take-length l)

    -- the first m of the table, where all of them were lent
    first_of : (m : ℕ) → m ≤ length l → take m (pad places no_entity (take places l)) ≡ take m (take places l)
    first_of m h = ⊎_elim within past (lt-or-ge places (length l))
      where
        past : length l ≤ places → take m (pad places no_entity (take places l)) ≡ take m (take places l)
        past c =
            let n : m ≤ length (take places l) = simp length-take (omega arith) in
            take-append-le m (take places l) (replicate (places - length (take places l)) no_entity) n

        within : places < length l → take m (pad places no_entity (take places l)) ≡ take m (take places l)
        within c =
            let n : length (take places l) ≡ places = simp length-take (omega arith) in
            let z : places - length (take places l) ≡ 0 = omega arith in
            rw (z, append-nil (take places l))

    -- looking up in them is looking up in the lent places
    pub lent_found : (k id : ℕ) → if_else (leb (length l) k) (found_among (pad places no_entity (take places l)) (length l) id) (found_among (pad places no_entity (take places l)) k id) ≡ found_among (take places l) k id
    unfolding if_else
    lent_found k id = go (leb (length l) k) refl
      where
        go : (b : Bool) → leb (length l) k ≡ b → if_else b (found_among (pad places no_entity (take places l)) (length l) id) (found_among (pad places no_entity (take places l)) k id) ≡ found_among (take places l) k id
        go true e =
            let h = leb-true (length l) k e in
            let n : length (take places l) ≤ length l = simp length-take (omega arith) in
            ap (λ (x : List Entity). find_from 0 x id) (first_of (length l) (omega arith) ∙ (take_all (length l) (take places l) n ∙ sym (take_all k (take places l) (omega arith))))
        go false e = let h = leb-false (length l) k e in ap (λ (x : List Entity). find_from 0 x id) (first_of k (omega arith))

-- ---- the search in places by value, place by place
-- the length of an array of structs that lies in a struct
pub length-of : (X Y : Type 0) (f : X → Y) (l : List X) (n : ℕ) → length (map f l) ≡ n → length l ≡ n
length-of X Y f l n e = sym (length-map l f) ∙ e

-- the search from place i on answers as the whole search does
pub record Seeking (l : List Entity) (n id i : ℕ) : Type 0 where
  pub size : length l ≡ entities_most
  pub within : i ≤ entities_most
  pub same : find_from i (drop i (take n l)) id ≡ found_among l n id

pub seek : (l : List Entity) (n id : ℕ) → length l ≡ entities_most → Seeking l n id 0
seek l n id e = record { size = e; within = omega arith; same = refl }

nothing_left : (l : List Entity) (id i : ℕ) → length l ≤ i → find_from i (drop i l) id ≡ None
unfolding find_from
nothing_left l id i h = rw (no-elements (drop i l) (simp length-drop (omega arith)))

module _ (l : List Entity) (n id i : ℕ) (w : Seeking l n id i) where
  pub none_left : n ≤ i → None ≡ found_among l n id
  none_left h = let b : length (take n l) ≤ i = simp length-take (omega arith) in sym (nothing_left (take n l) id i b) ∙ w.same

  pub none_more : entities_most ≤ i → None ≡ found_among l n id
  none_more h = let b : length (take n l) ≤ i = simp length-take (omega (arith, w.size)) in sym (nothing_left (take n l) id i b) ∙ w.same

  module _ (d : Entity) (h : i < n) (b : i < entities_most) where
    here : drop i (take n l) ≡ get_or l i d ∷ drop (suc i) (take n l)
    here = let c : i < length (take n l) = simp length-take (omega (arith, w.size)) in drop-cons (take n l) i d c ∙ (rw get_or-take)

    pub here-at : (get_or l i d).id ≡ id → Some i ≡ found_among l n id
    unfolding find_from if_else
    here-at e = rw (here, eq-eqb (get_or l i d).id id e) at w.same

    pub not-here : ((get_or l i d).id ≡ id → ⊥) → Seeking l n id (i + 1)
    unfolding find_from if_else
    not-here e =
        record { size = w.size; within = rw (add-one i) b; same = rw (add-one i) (rw (here, ne_eqb (get_or l i d).id id e) at w.same) }
