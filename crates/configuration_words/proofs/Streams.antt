-- The streams of a configuration: the table reads as the list of their descriptors does, and the first block that is refused decides.
use Rattle.std.specs.Prelude.{Err, Ok}
use Prim.Native.Nat.{ℕ, zero, suc, ◌≤◌, ◌<◌}
use mathlib.Core.Path.{◌≡◌, refl, sym, ap, ◌∙◌}
use mathlib.Core.List.{List, [], ◌∷◌, map}
use mathlib.Core.Bool.{Bool, true, false}
use mathlib.Core.Logic.{⊎_elim}
use lib.ListN.{length, take, get_or, length-map, get_or-eq_default}
use lib.Seq.{take_all}
use lib.Dec.{eqb}
use borrow.Author.Tests.{eq-eqb, eqb-true, le-leb, leb-true, leb-false}
use native.Mathlib.Omega.{arith}
use Rattle.rules.specs.Verdicts.{◌and_then◌, Verdict, accept, refuse}
use Rattle.rules.proofs.Firsts.{lt-or-ge}
use Rattle.rules.proofs.Verdicts.{clash}
use Rattle.rules.proofs.Padded.{pad-at}
use Rattle.rules.proofs.Places.{first-place}
use Rattle.entities.specs.declared.Table.{Table}
use Rattle.configuration_rules.specs.Descriptors.{number_at}
use Rattle.configuration_rules.specs.declared.Sought.TheVariants.{Listed}
use Rattle.configuration_rules.specs.Words.{StreamingFirst}
use Rattle.configuration_rules.proofs.Deciding.{listed}
use Rattle.interfaces.specs.Limits.{interfaces_most, no_stream}
use Rattle.interfaces.specs.Inner.{stream_at, listed_in, streams_of, place_of}
use Rattle.configuration_layout.specs.Words.{Lists}
use Rattle.configuration_layout.specs.Broken.{Laid}
use Rattle.configuration_layout.proofs.Walked.{lists}
use Rattle.configuration_layout.proofs.Few.{few}
use Rattle.configuration.specs.Answer.{entry_count, entry_at}
use Rattle.configuration.specs.Inner.{first_unnamed, entries_named, block_verdict, streams_by}
use Rattle.configuration_words.specs.Broken.{ListedAt, Named, AllNamed}

pub get_d_map : {A : Type 0} (f : ℕ → A) (l : List ℕ) (i : ℕ) (d : A) → i < length l → get_or (map f l) i d ≡ f (get_or l i 0)
get_d_map f [] i d h = absurd (omega arith)
get_d_map f (x ∷ l) zero d h = refl
get_d_map f (x ∷ l) (suc i) d h = get_d_map f l i d (omega arith)

-- ---- the streaming blocks' own, one after the other
module _ (s : List ℕ) (t : Table) where
  pub data Judged (l : List ℕ) : Verdict → Type 0 where
    all_right : ((i : ℕ) → i < length l → block_verdict s t (get_or l i 0) ≡ accept) → Judged l accept
    first-wrong : (i : ℕ) → i < length l → ((j : ℕ) → j < i → block_verdict s t (get_or l j 0) ≡ accept) → (k x : ℕ) → block_verdict s t (get_or l i 0) ≡ refuse k x → Judged l (refuse k x)

  module _ (o : ℕ) (l : List ℕ) where
    stops : (v : Verdict) → block_verdict s t o ≡ v → (w : Verdict) → Judged l w → Judged (o ∷ l) (v and_then w)
    stops (Err r) e w j = first-wrong 0 (omega arith) (λ i h. absurd (omega arith)) r.number r.offset e
    stops (Ok _) e w (all_right h) = all_right right
      where
        right : (i : ℕ) → i < suc (length l) → block_verdict s t (get_or (o ∷ l) i 0) ≡ accept
        right zero b = e
        right (suc i) b = h i (omega arith)
    stops (Ok _) e w (first-wrong i b h k x q) = first-wrong (suc i) (omega arith) right k x q
      where
        right : (j : ℕ) → j < suc i → block_verdict s t (get_or (o ∷ l) j 0) ≡ accept
        right zero c = e
        right (suc j) c = h j (omega arith)

  pub judged : (l : List ℕ) → Judged l (streams_by s t l)
  unfolding streams_by
  judged [] = all_right (λ i h. absurd (omega arith))
  judged (o ∷ l) = stops o l (block_verdict s t o) refl (streams_by s t l) (judged l)

  same-wrong : (v : Verdict) (k x j y : ℕ) → v ≡ refuse k x → v ≡ refuse j y → refuse k x ≡ refuse j y
  same-wrong v k x j y e q = sym e ∙ q

  pub one-judged : (l : List ℕ) (v w : Verdict) → Judged l v → Judged l w → v ≡ w
  one-judged l v w (all_right h) (all_right g) = refl
  one-judged l v w (all_right h) (first-wrong i b g k x q) = absurd (clash _ k x q (h i b))
  one-judged l v w (first-wrong i b g k x q) (all_right h) = absurd (clash _ k x q (h i b))
  one-judged l v w (first-wrong i b g k x q) (first-wrong j c h m y r) =
      ⊎_elim (λ z. absurd (clash _ k x q (h i z)))
      (λ z. ⊎_elim (λ u. absurd (clash _ m y r (g j u))) (λ u. let n : i ≡ j = omega arith in same-wrong (block_verdict s t (get_or l j 0)) k x m y (rw n at q) r) (lt-or-ge j i)) (lt-or-ge i j)

-- ---- an accepted layout
module _ (s : List ℕ) (c : ℕ) (l : Laid s c) where
  pub lists-streams : Lists s (StreamingFirst s) (listed_in s)
  lists-streams = lists s l.kept.each Listed (StreamingFirst s) (listed s)

  pub few-streams : length (listed_in s) ≤ interfaces_most
  few-streams = (few s l.kept.each l.few).0

  all-taken : take interfaces_most (listed_in s) ≡ listed_in s
  all-taken = take_all interfaces_most (listed_in s) few-streams

  pub count-is : (streams_of s).count ≡ length (listed_in s)
  unfolding streams_of
  count-is = rw all-taken (length-map (listed_in s) (stream_at s))

  pub stream-is : (i : ℕ) → i < length (listed_in s) → get_or (streams_of s).streams i no_stream ≡ stream_at s (get_or (listed_in s) i 0)
  unfolding streams_of
  stream-is i h = rw all-taken (pad-at interfaces_most no_stream (map (stream_at s) (listed_in s)) i ∙ get_d_map (stream_at s) (listed_in s) i no_stream h)

  -- unused places are zero
  pub stream-past : (i : ℕ) → length (listed_in s) ≤ i → get_or (streams_of s).streams i no_stream ≡ no_stream
  unfolding streams_of
  stream-past i h = rw all-taken (pad-at interfaces_most no_stream (map (stream_at s) (listed_in s)) i ∙ get_or-eq_default (map (stream_at s) (listed_in s)) no_stream (rw (length-map (listed_in s) (stream_at s)) h))

  pub listed_at : (i : ℕ) → i < length (listed_in s) → ListedAt s (get_or (listed_in s) i 0)
  listed_at i h = let e = lists-streams.each i h in record { starts = e.0; streaming = e.1 }

  pub place-of : (o : ℕ) → ListedAt s o → (i : ℕ) × (i < length (listed_in s)) × (get_or (listed_in s) i 0 ≡ o)
  place-of o w = lists-streams.all o w.starts w.streaming

  -- ---- 73
  abbrev P : ℕ → ℕ → Bool
  P x i = eqb (get_or (streams_of s).streams i no_stream).interface x

  pub number_is : (x i : ℕ) → i < length (listed_in s) → eqb (get_or (streams_of s).streams i no_stream).interface x ≡ eqb (number_at s (get_or (listed_in s) i 0)) x
  unfolding stream_at
  number_is x i h = rw (stream-is i h)

  -- a number without its place is that of no listed interface
  pub unnamed : (x : ℕ) → place_of (streams_of s).streams (streams_of s).count x ≡ (streams_of s).count → Named s x → ⊥
  unnamed x e n =
      let p = place-of n.place n.listed in
      let f = first-place (P x) (streams_of s).count in
      let b : p.0 < place_of (streams_of s).streams (streams_of s).count x = omega (arith, e, count-is, p.1) in
      f.before p.0 b (number_is x p.0 p.1 ∙ eq-eqb (number_at s (get_or (listed_in s) p.0 0)) x (ap (λ (o : ℕ). number_at s o) p.2 ∙ n.number))

  pub named : (x : ℕ) → (place_of (streams_of s).streams (streams_of s).count x ≡ (streams_of s).count → ⊥) → Named s x
  named x h =
      let f = first-place (P x) (streams_of s).count in
      let i = place_of (streams_of s).streams (streams_of s).count x in
      let b : i < (streams_of s).count = omega (arith, f.within, h) in
      let d : i < length (listed_in s) = omega (arith, count-is) in
      record { place = get_or (listed_in s) i 0; listed = listed_at i d; number = eqb-true (number_at s (get_or (listed_in s) i 0)) x (sym (number_is x i d) ∙ f.here b) }

  module _ (b : List ℕ) where
    abbrev Q : ℕ → Bool
    Q j = eqb (place_of (streams_of s).streams (streams_of s).count (entry_at b j)) (streams_of s).count

    pub all_named : entries_named b (streams_of s).streams (streams_of s).count ≡ true → AllNamed s b
    unfolding entries_named
    all_named e j h =
        let f = first-place Q (entry_count b) in
        let g = leb-true (entry_count b) (first_unnamed b (streams_of s).streams (streams_of s).count) e in
        named (entry_at b j) (λ q. f.before j (omega arith) (eq-eqb _ _ q))

    pub named-all : AllNamed s b → entries_named b (streams_of s).streams (streams_of s).count ≡ true
    unfolding entries_named
    named-all a =
        let f = first-place Q (entry_count b) in
        let r = first_unnamed b (streams_of s).streams (streams_of s).count in
        ⊎_elim (λ h. absurd (unnamed (entry_at b r) (eqb-true _ _ (f.here h)) (a r h))) (λ h. le-leb (entry_count b) r h) (lt-or-ge r (entry_count b))

    pub one-unnamed : entries_named b (streams_of s).streams (streams_of s).count ≡ false → (j : ℕ) × (j < entry_count b) × (Named s (entry_at b j) → ⊥)
    unfolding entries_named
    one-unnamed e =
        let f = first-place Q (entry_count b) in
        let r = first_unnamed b (streams_of s).streams (streams_of s).count in
        let h = leb-false (entry_count b) r e in
        (r, h, unnamed (entry_at b r) (eqb-true _ _ (f.here h)))

    pub unnamed-one : (j : ℕ) → j < entry_count b → (Named s (entry_at b j) → ⊥) → entries_named b (streams_of s).streams (streams_of s).count ≡ false
    unnamed-one j h n = go (entries_named b (streams_of s).streams (streams_of s).count) refl
      where
        go : (t : Bool) → entries_named b (streams_of s).streams (streams_of s).count ≡ t → t ≡ false
        go true e = absurd (n (all_named e j h))
        go false e = refl
