-- BOTH DIRECTIONS OF THE WORDS: a session's rest is read back from its words, and words that are read as a rest are its words. So words are refused exactly where they are no rest's.
use Rattle.std.specs.Prelude.{None, Some}
use Rattle.session_rules.specs.Options.{Fault, Layer, Stamp}
use Prim.Native.Nat.{ℕ, ◌+◌, ◌-◌, ◌*◌, ◌/◌, ◌%◌, ◌≤◌}
use mathlib.Core.Path.{◌≡◌, refl, sym, ap, ◌∙◌}
use mathlib.Core.Bool.{Bool, true, false}
use mathlib.Core.List.{List}
use native.Mathlib.Omega.{arith}
use native.Mathlib.Nat.{mod-eq_of_lt}
use lib.ListN.{length}
use borrow.Author.Tests.{ne_eqb}
use Rattle.rules.specs.IfElse.{if_else}
use Rattle.rules.specs.Numbered.{any_below}
use Rattle.rules.proofs.Rows.{any_none}
use Rattle.sizes.specs.declared.HeaderKind.{HeaderKind}
use Rattle.sizes.specs.declared.HeaderKind.TheVariants.{Old, Vp8}
use Rattle.session_rules.specs.declared.Reason.TheVariants.{Gap, Error, Clock, Mixed, Long, Cut, Empty}
use Rattle.session_rules.specs.declared.Run.{Run}
use Rattle.session_rules.specs.declared.Phase.{Phase}
use Rattle.session_rules.specs.declared.Phase.TheVariants.{Fresh, Under, Past}
use Rattle.session_rules.specs.declared.Rest.{Rest}
use Rattle.session_words.specs.declared.Read.TheVariants.{Broken, Laid}
use Rattle.session_words.specs.Words.{word_count, one_of, stamp_word, layer_word, fault_word, kind_word, phase_word, run_of, under_way, words_of}
use Rattle.session_words.specs.Reading.{stamp_in, layer_in, fault_in, kind_in, phase_in, is_one, rest_in, differ_at, spare_set, other_form, read_of}
use Rattle.session_words.specs.Fits.{StampFits, LayerFits, PhaseFits, Fits}
use Rattle.session_words.proofs.Differ.{no_difference, all_same}

-- ---- the marks, digit by digit
abbrev sum : (a b c d e f g : ℕ) → ℕ
sum a b c d e f g = a + 2 * b + 4 * c + 32 * d + 128 * e + 256 * f + 512 * g

module _ (a b c d e f g : ℕ) (p : a ≤ 1) (q : b ≤ 1) (r : c ≤ 7) (s : d ≤ 2) (t : e ≤ 1) (u : f ≤ 1) where
  digit-1 : sum a b c d e f g % 2 ≡ a
  digit-1 = omega arith

  digit-2 : sum a b c d e f g / 2 % 2 ≡ b
  digit-2 = omega arith

  digit-4 : sum a b c d e f g / 4 % 8 ≡ c
  digit-4 = omega arith

  digit-32 : sum a b c d e f g / 32 % 4 ≡ d
  digit-32 = omega arith

  digit-128 : sum a b c d e f g / 128 % 2 ≡ e
  digit-128 = omega arith

  digit-256 : sum a b c d e f g / 256 % 2 ≡ f
  digit-256 = omega arith

  digit-512 : sum a b c d e f g / 512 ≡ g
  digit-512 = omega arith

-- ---- what each is read back as
one-few : (b : Bool) → one_of b ≤ 1
one-few true = omega arith
one-few false = omega arith

fault-few : (f : Fault) → fault_word f ≤ 7
fault-few None = omega arith
fault-few (Some Gap) = omega arith
fault-few (Some Error) = omega arith
fault-few (Some Clock) = omega arith
fault-few (Some Mixed) = omega arith
fault-few (Some Long) = omega arith
fault-few (Some Cut) = omega arith
fault-few (Some Empty) = omega arith

phase-few : (p : Phase) → phase_word p ≤ 2
phase-few Fresh = omega arith
phase-few (Under run) = omega arith
phase-few (Past fid) = omega arith

bool-back : (b : Bool) → is_one (one_of b) ≡ b
bool-back true = refl
bool-back false = refl

kind-back : (k : HeaderKind) → kind_in (kind_word k) ≡ k
unfolding kind_in if_else
kind-back Old = refl
kind-back Vp8 = refl

stamp-back : (s : Stamp) → StampFits s → stamp_in (stamp_word s) ≡ s
unfolding stamp_in if_else
stamp-back None f = refl
stamp-back (Some x) f =
    rw (ne_eqb (x + 1) 0 (λ z. absurd (let y : x + 1 ≡ 0 = z in omega arith))) (ap Some (let y : (x + 1 - 1) % 4294967296 ≡ x = omega (arith, f) in y))

layer-back : (y : Layer) → LayerFits y → layer_in (layer_word y) ≡ y
unfolding layer_in if_else
layer-back None f = refl
layer-back (Some x) f =
    rw (ne_eqb (x + 1) 0 (λ z. absurd (let y : x + 1 ≡ 0 = z in omega arith))) (ap Some (let y : (x + 1 - 1) % 65536 ≡ x = omega (arith, f) in y))

fault-back : (f : Fault) → fault_in (fault_word f) ≡ f
unfolding fault_in if_else
fault-back None = refl
fault-back (Some Gap) = refl
fault-back (Some Error) = refl
fault-back (Some Clock) = refl
fault-back (Some Mixed) = refl
fault-back (Some Long) = refl
fault-back (Some Cut) = refl
fault-back (Some Empty) = refl

-- a run, by way of its words
abbrev again : Run → Run
again r =
    record {
      bytes = r.bytes;
      fill = r.fill;
      stamp = stamp_in (stamp_word r.stamp);
      fid = is_one (one_of r.fid);
      still = is_one (one_of r.still);
      fault = fault_in (fault_word r.fault);
      layer = layer_in (layer_word r.layer);
    }

phase-back : (p : Phase) → PhaseFits p → phase_in (phase_word p) (again (run_of p)) ≡ p
unfolding phase_in if_else
phase-back Fresh f = refl
phase-back (Under run) f = rw (stamp-back run.stamp f.0, bool-back run.fid, bool-back run.still, fault-back run.fault, layer-back run.layer f.1)
phase-back (Past fid) f = rw (bool-back fid)

module _ (r : Rest) where
  abbrev run : Run
  run = under_way r

  rest_back : Fits r → rest_in (words_of r) ≡ r
  unfolding rest_in words_of
  rest_back f =
      let a = one-few run.fid in
      let b = one-few run.still in
      let c = fault-few run.fault in
      let d = phase-few r.track.phase in
      let e = one-few r.track.gap in
      let g = one-few r.closed in
      rw (
        digit-1 (one_of run.fid) (one_of run.still) (fault_word run.fault) (phase_word r.track.phase) (one_of r.track.gap) (one_of r.closed) (kind_word r.opening.kind) a b c d e g,
        digit-2 (one_of run.fid) (one_of run.still) (fault_word run.fault) (phase_word r.track.phase) (one_of r.track.gap) (one_of r.closed) (kind_word r.opening.kind) a b c d e g,
        digit-4 (one_of run.fid) (one_of run.still) (fault_word run.fault) (phase_word r.track.phase) (one_of r.track.gap) (one_of r.closed) (kind_word r.opening.kind) a b c d e g,
        digit-32 (one_of run.fid) (one_of run.still) (fault_word run.fault) (phase_word r.track.phase) (one_of r.track.gap) (one_of r.closed) (kind_word r.opening.kind) a b c d e g,
        digit-128 (one_of run.fid) (one_of run.still) (fault_word run.fault) (phase_word r.track.phase) (one_of r.track.gap) (one_of r.closed) (kind_word r.opening.kind) a b c d e g,
        digit-256 (one_of run.fid) (one_of run.still) (fault_word run.fault) (phase_word r.track.phase) (one_of r.track.gap) (one_of r.closed) (kind_word r.opening.kind) a b c d e g,
        digit-512 (one_of run.fid) (one_of run.still) (fault_word run.fault) (phase_word r.track.phase) (one_of r.track.gap) (one_of r.closed) (kind_word r.opening.kind) a b c d e g,
        phase-back r.track.phase f.phase,
        bool-back r.closed,
        bool-back r.track.gap,
        stamp-back r.last f.last,
        kind-back r.opening.kind,
        mod-eq_of_lt f.framing,
        mod-eq_of_lt f.taken,
      )

  pub words-length : length (words_of r) ≡ word_count
  unfolding words_of
  words-length = refl

  pub spare-clear : spare_set (words_of r) ≡ false
  unfolding spare_set words_of any_below
  spare-clear = refl

  same-form : Fits r → other_form (words_of r) ≡ false
  unfolding other_form
  same-form f = rw (rest_back f) (any_none word_count (differ_at (words_of r) (words_of r)) (λ k h. no_difference (words_of r) (words_of r) k refl))

  -- A REST IS READ BACK FROM ITS WORDS
  pub read_back : Fits r → read_of (words_of r) ≡ Laid r
  unfolding read_of if_else
  read_back f = rw (spare-clear, same-form f, rest_back f)

-- WORDS THAT ARE READ AS A REST ARE ITS WORDS
pub read_only : (w : List ℕ) → length w ≡ word_count → (r : Rest) → read_of w ≡ Laid r → w ≡ words_of r
unfolding read_of other_form if_else
read_only w many r e = go (spare_set w) (other_form w) refl e
  where
    other : (k : ℕ) (x : Rest) → Broken k ≡ Laid x → ⊥
    other k x q = let z : ◌≡◌ {A = ℕ} 0 1 = cc in omega arith

    laid-rest : Laid (rest_in w) ≡ Laid r → rest_in w ≡ r
    laid-rest q = cc

    same : other_form w ≡ false → w ≡ words_of (rest_in w)
    same f = all_same w (words_of (rest_in w)) (many ∙ sym (words-length (rest_in w))) (rw many f)

    go : (a b : Bool) → other_form w ≡ b → if_else a (Broken 54) (if_else b (Broken 50) (Laid (rest_in w))) ≡ Laid r → w ≡ words_of r
    go true b p q = absurd (other 54 r q)
    go false true p q = absurd (other 50 r q)
    go false false p q = same p ∙ ap words_of (laid-rest q)
