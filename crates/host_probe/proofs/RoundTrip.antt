-- Words and blocks, back and forth: reading what was written gives the words of the fields that the revision has, and writing what was read gives the block's bytes.
use Rattle.rules.specs.Verdicts.{accept}
use Prim.Native.Nat.{ℕ, suc, ◌+◌, ◌*◌, ◌%◌, ◌^◌, ◌≤◌, ◌<◌}
use mathlib.Core.Path.{◌≡◌, refl, sym, ap, ◌∙◌}
use mathlib.Core.Bool.{Bool, true, false, not, true≢false}
use mathlib.Core.List.{List, [], ◌∷◌, ◌++◌}
use lib.ListN.{length, get_or, take, drop}
use lib.Dec.{eqb}
use borrow.Author.Tests.{le-ltb, eq-eqb, eqb-true}
use native.Mathlib.Omega.{arith}
use native.Mathlib.Decide.{dec_le}
use native.Mathlib.Nat.{mod-eq_of_lt}
use Rattle.rules.specs.IfElse.{if_else}
use Rattle.rules.specs.First.{First}
use Rattle.rules.proofs.Places.{Says, first-place}
use Rattle.entities.specs.declared.Revision.{Revision}
use Rattle.entities.specs.declared.Revision.TheVariants.{R15}
use Rattle.probe.specs.Fields.{probe_size, fields_of, kept_in, written, Held, AllBytes, ReadsBack}
use Rattle.probe.proofs.RoundTrip.{whole_back, writes-back}
use Rattle.host_told.specs.Told.{verdict_told}
use Rattle.host_probe.specs.Words.{words_of, fields_in, differs, wide_at}
use Rattle.host_probe.specs.Probe.{read_as, read_left_as, write_left_as}

-- every word has 32 bits: what the type of the words says
abbrev pub AllWords : List ℕ → Type 0
AllWords w = (i : ℕ) → get_or w i 0 < 2 ^ 32

-- ---- words that fit their fields are the words of their fields
same_lists : (w l : List ℕ) → length w ≡ length l → ((i : ℕ) → i < length w → get_or w i 0 ≡ get_or l i 0) → w ≡ l
same_lists [] [] e h = refl
same_lists [] (y ∷ l) e h = absurd (omega arith)
same_lists (x ∷ w) [] e h = absurd (omega arith)
same_lists (x ∷ w) (y ∷ l) e h =
    let a : x ≡ y = h 0 (omega arith) in
    let b : w ≡ l = same_lists w l (omega arith) (λ i k. h (suc i) (omega arith)) in
    rw (a, b)

agreeing : (a b : ℕ) → (not (eqb a b) ≡ true → ⊥) → a ≡ b
agreeing a b h = go (eqb a b) refl
  where
    go : (t : Bool) → eqb a b ≡ t → a ≡ b
    go true e = eqb-true a b e
    go false e = absurd (h (rw e))

pub fit_same : (w : List ℕ) → length w ≡ 29 → wide_at w ≡ 29 → words_of (fields_in w) ≡ w
fit_same w n e =
    let f = first-place (differs w (words_of (fields_in w))) 29 in
    sym (same_lists w (words_of (fields_in w)) n (λ i h. agreeing (get_or w i 0) (get_or (words_of (fields_in w)) i 0) (f.before i (omega arith))))

pub same-fit : (w : List ℕ) → words_of (fields_in w) ≡ w → wide_at w ≡ 29
same-fit w e = go (first-place (differs w (words_of (fields_in w))) 29) (dec_le 29 (wide_at w))
  where
    go : First (Says (differs w (words_of (fields_in w)))) 29 (wide_at w) → Dec (29 ≤ wide_at w) → wide_at w ≡ 29
    go f (yes l) = omega (arith, f.within)
    go f (no l) = absurd (true≢false (sym (f.here (omega arith)) ∙ (rw (eq-eqb (get_or w (wide_at w) 0) (get_or (words_of (fields_in w)) (wide_at w) 0) (ap (λ (x : List ℕ). get_or x (wide_at w) 0) (sym e))))))

-- ---- what was written is read back
held : (w : List ℕ) → AllWords w → Held (fields_in w)
held w h =
    record {
      hint = omega arith;
      interval = h 3;
      key_rate = omega arith;
      p_rate = omega arith;
      quality = omega arith;
      window = omega arith;
      delay = omega arith;
      frame_size = h 9;
      payload_size = h 10;
      clock = h 11;
      rate_modes = omega arith;
      layout = refl;
    }

module _ (v : Revision) (w room old : List ℕ) (h : AllWords w) (n : length w ≡ 29) (e : wide_at w ≡ 29) (l : probe_size v ≤ length room) where
  is-written : write_left_as v w room ≡ written v (fields_in w) room
  unfolding write_left_as if_else
  is-written = rw (le-ltb (wide_at w) 29 (omega arith))

  back : ReadsBack v (fields_in w) (write_left_as v w room)
  back = whole_back v (fields_in w) room (write_left_as v w room) (held w h) l is-written

  module _ (k : probe_size v ≤ length (write_left_as v w room)) where
    pub reads-back : read_as v (take (probe_size v) (write_left_as v w room)) ≡ verdict_told accept
    reads-back = rw (back k)

    -- the words, with 0 for what the revision lacks
    pub words_back : read_left_as v (take (probe_size v) (write_left_as v w room)) old ≡ words_of (kept_in v (fields_in w))
    words_back = rw (back k)

-- in revision 1.5 these are the words
pub all-words-back : (w : List ℕ) → length w ≡ 29 → wide_at w ≡ 29 → words_of (kept_in R15 (fields_in w)) ≡ w
unfolding kept_in
all-words-back w n e = fit_same w n e

-- ---- what was read is written back
byte-again : (x : ℕ) → x < 256 → x % 256 ≡ x
byte-again x h = mod-eq_of_lt h

half-again : (x y : ℕ) → x < 256 → y < 256 → (x + y * 256) % 65536 ≡ x + y * 256
half-again x y h k = let z : x + y * 256 < 65536 = omega arith in mod-eq_of_lt z

fields-again : (s : List ℕ) → AllBytes s → fields_in (words_of (fields_of s)) ≡ fields_of s
unfolding fields_of
fields-again s h =
    rw
    (half-again (get_or s 0 0) (get_or s 1 0) (h 0) (h 1), half-again (get_or s 8 0) (get_or s 9 0) (h 8) (h 9), half-again (get_or s 10 0) (get_or s 11 0) (h 10) (h 11), half-again (get_or s 12 0) (get_or s 13 0) (h 12) (h 13), half-again (get_or s 14 0) (get_or s 15 0) (h 14) (h 15), half-again (get_or s 16 0) (get_or s 17 0) (h 16) (h 17), half-again (get_or s 38 0) (get_or s 39 0) (h 38) (h 39), byte-again (get_or s 2 0) (h 2), byte-again (get_or s 3 0) (h 3), byte-again (get_or s 30 0) (h 30), byte-again (get_or s 31 0) (h 31), byte-again (get_or s 32 0) (h 32), byte-again (get_or s 33 0) (h 33), byte-again (get_or s 34 0) (h 34), byte-again (get_or s 35 0) (h 35), byte-again (get_or s 36 0) (h 36), byte-again (get_or s 37 0) (h 37), byte-again (get_or s 40 0) (h 40), byte-again (get_or s 41 0) (h 41), byte-again (get_or s 42 0) (h 42), byte-again (get_or s 43 0) (h 43), byte-again (get_or s 44 0) (h 44), byte-again (get_or s 45 0) (h 45), byte-again (get_or s 46 0) (h 46), byte-again (get_or s 47 0) (h 47))

module _ (v : Revision) (s room : List ℕ) (h : AllBytes s) (n : length s ≡ probe_size v) (l : probe_size v ≤ length room) where
  no-wide : wide_at (words_of (fields_of s)) ≡ 29
  no-wide = same-fit (words_of (fields_of s)) (ap words_of (fields-again s h))

  pub writes-read : write_left_as v (words_of (fields_of s)) room ≡ s ++ drop (probe_size v) room
  unfolding write_left_as if_else
  writes-read = rw (le-ltb (wide_at (words_of (fields_of s))) 29 (omega (arith, no-wide)), fields-again s h) (writes-back v s (fields_of s) h refl n room l)
