-- The walk's loop: its invariant, and how it starts, goes on and ends.
use Rattle.rules.specs.Verdicts.{Verdict, accept, refuse}
use Prim.Native.Nat.{ℕ, suc, ◌+◌, ◌-◌, ◌≤◌, ◌<◌}
use mathlib.Core.Path.{◌≡◌, refl, sym, ◌∙◌}
use mathlib.Core.List.{List, [], ◌∷◌, ◌++◌, append-nil}
use mathlib.Core.Bool.{Bool, true, false}
use lib.ListN.{length, get_or, set, replicate, length-append, length-set, get_or-replicate}
use lib.Seq.{get_or-set_same, get_or-set_other, get_or-append-add}
use lib.Dec.{eqb}
use borrow.Author.Tests.{eqb-true, eqb-false}
use native.Mathlib.Omega.{arith}
use Rattle.le.specs.Le.{byte}
use Rattle.rules.specs.IfElse.{if_else}
use Rattle.rules.specs.Pad.{pad}
use Rattle.rules.specs.Numbered.{first_row}
use Rattle.rules.specs.Walk.{broken_at}
use Rattle.rules.proofs.Padded.{pad-set, pad-at}
use Rattle.rules.proofs.Rows.{row-none}
use Rattle.rules.proofs.Walks.{Walking, Steady, starts, stops, ends, goes}
use Rattle.streaming_descriptors.specs.Descriptors.{len_at, kind_at, is_format, is_frame, format_of, format_layout, no_format, no_frame, format_at, frame_at}
use Rattle.streaming_rules.specs.Rules.{formats_most, frames_most, rows}
use Rattle.streaming_descriptors.specs.declared.Kind.{Kind}
use Rattle.streaming_rules.specs.declared.Sofar.{Sofar}
use Rattle.streaming_descriptors.specs.declared.Format.{Format}
use Rattle.streaming_descriptors.specs.declared.Frame.{Frame}
use Rattle.streaming_rules.proofs.Fine.{Fine, fine, numbered, no-frame-format, format-inside, frame-inside}
use Rattle.streaming_descriptors.proofs.Subtypes.{frame-long}
use Rattle.streaming.specs.Answer.{Seen, count_under, last_of, sofar, after, course, accepted_with, refused_by}
use Rattle.streaming.specs.Inner.{no_counts, late_by, late, answer, after_walk, walked}
use Rattle.streaming.specs.declared.Streaming.{Streaming}
use Rattle.streaming.proofs.Late.{late-same}

-- ---- the course
pub steady : (linked : Bool) (s : List ℕ) → Steady (course linked s)
steady linked s =
    record {
      numbered = λ a o. numbered s o (sofar linked a);
      onward = λ a o h e. omega (arith, (fine s o (sofar linked a) e).long);
      inside = λ a o h e. (fine s o (sofar linked a) e).inside;
    }

-- ---- what a descriptor adds
module _ (s : List ℕ) (a : Seen) (o : ℕ) where
  pub after-format : is_format (kind_at s o) ≡ true → after s a o ≡ record { formats = a.formats ++ (format_at (format_of (kind_at s o)) s o ∷ []); frames = a.frames }
  unfolding after if_else
  after-format q = rw (q, no-frame-format (kind_at s o) q, append-nil)

  pub after_frame : is_format (kind_at s o) ≡ false → is_frame (kind_at s o) ≡ true → after s a o ≡ record { formats = a.formats; frames = a.frames ++ (frame_at (format_of (kind_at s o)) (length a.formats) s o ∷ []) }
  unfolding after if_else
  after_frame p q = rw (p, q, append-nil)

  pub after-other : is_format (kind_at s o) ≡ false → is_frame (kind_at s o) ≡ false → after s a o ≡ a
  unfolding after if_else
  after-other p q = rw (p, q, append-nil a.formats, append-nil a.frames)

count-more : (n : ℕ) (l : List Frame) (e : Frame) → count_under n (l ++ (e ∷ [])) ≡ if_else (eqb e.format n) (suc (count_under n l)) (count_under n l)
unfolding count_under if_else
count-more n [] e = refl
count-more n (x ∷ l) e = rw (count-more n l e) (go (eqb x.format n) (eqb e.format n))
  where
    go : (b c : Bool) → if_else b (suc (if_else c (suc (count_under n l)) (count_under n l))) (if_else c (suc (count_under n l)) (count_under n l)) ≡ if_else c (suc (if_else b (suc (count_under n l)) (count_under n l))) (if_else b (suc (count_under n l)) (count_under n l))
    go true true = refl
    go true false = refl
    go false true = refl
    go false false = refl

last_more : (l : List Format) (e : Format) → last_of (l ++ (e ∷ [])) ≡ e
last_more l e =
    let n : length (l ++ (e ∷ [])) - 1 ≡ length l + 0 = simp length-append (omega arith) in
    rw n (get_or-append-add l (e ∷ []) 0 no_format)

of_format : (k f : ℕ) (s : List ℕ) (o : ℕ) (x : Frame) → x ≡ frame_at k f s o → x.format ≡ f
unfolding frame_at
of_format k f s o x r = rw r

-- one frame more: the number that it has is the number of frames of its format
counted-more : (counts : List ℕ) (f v : ℕ) (l : List Frame) (x : Frame) → f < length counts → x.format ≡ f → v ≡ get_or counts f 0 + 1 → ((j : ℕ) → j < 9 → get_or counts j 0 ≡ count_under j l) → (j : ℕ) → j < 9 → get_or (set counts f v) j 0 ≡ count_under j (l ++ (x ∷ []))
unfolding if_else
counted-more counts f v l x w e n h j k = rw (count-more j l x, e) (go (eqb f j) refl)
  where
    go : (b : Bool) → eqb f j ≡ b → get_or (set counts f v) j 0 ≡ if_else b (suc (count_under j l)) (count_under j l)
    go true q = let z : f ≡ j = eqb-true f j q in rw (← z, get_or-set_same counts f v 0 w) (n ∙ (rw (z, h j k) (omega arith)))
    go false q = get_or-set_other counts f j v 0 (λ z. eqb-false f j q (sym z)) ∙ h j k

-- ---- the invariant: what the loop holds is what the walk has seen
pub record Going (linked : Bool) (s : List ℕ) (formats : List Format) (frames : List Frame) (counts : List ℕ) (f n : ℕ) (last : Format) (at : ℕ) : Type 0 where
  pub seen : Seen
  pub walking : Walking (course linked s) seen at
  pub formats-kept : formats ≡ pad formats_most no_format seen.formats
  pub formats-counted : f ≡ length seen.formats
  pub formats-few : f ≤ formats_most
  pub frames-kept : frames ≡ pad frames_most no_frame seen.frames
  pub frames-counted : n ≡ length seen.frames
  pub frames-few : n ≤ frames_most
  pub last-is : last ≡ last_of seen.formats
  pub size : length counts ≡ 9
  pub counted : (j : ℕ) → j < 9 → get_or counts j 0 ≡ count_under j seen.frames

pub going-starts : (linked : Bool) (s : List ℕ) → Going linked s (replicate formats_most no_format) (replicate frames_most no_frame) no_counts 0 0 no_format 0
unfolding count_under
going-starts linked s =
    record {
      seen = record { formats = []; frames = [] };
      walking = starts (course linked s);
      formats-kept = refl;
      formats-counted = refl;
      formats-few = omega arith;
      frames-kept = refl;
      frames-counted = refl;
      frames-few = omega arith;
      last-is = refl;
      size = refl;
      counted = λ j h. get_or-replicate {A = ℕ} 9 j 0 0 h;
    }

-- what the loop hands to the rules
abbrev pub handed : Bool → ℕ → ℕ → Format → List ℕ → Sofar
handed linked f n last counts = record { linked = linked; formats = f; frames = n; last = last; numbered = get_or counts f 0 }

-- what the callees say of the kind
pub so-format : (k m : Kind) (r b : Bool) → k ≡ m → r ≡ is_format k → r ≡ b → is_format m ≡ b
so-format k m r b e f g = rw (← e) (sym f ∙ g)

pub so-frame : (k m : Kind) (r b : Bool) → k ≡ m → r ≡ is_frame k → r ≡ b → is_frame m ≡ b
so-frame k m r b e f g = rw (← e) (sym f ∙ g)

pub format-room : (s : List ℕ) (o : ℕ) (a : Sofar) → Fine s o a → is_format (kind_at s o) ≡ true → o + (format_layout (format_of (kind_at s o))).length ≤ length s
format-room s o a f q = format-inside (kind_at s o) s o (length s) q f.inside f.shaped

pub frame-room : (s : List ℕ) (o : ℕ) (a : Sofar) → Fine s o a → is_frame (kind_at s o) ≡ true → o + 26 ≤ length s
frame-room s o a f q = frame-long (format_of (kind_at s o)) s o (length s) (frame-inside (kind_at s o) s o (length s) q f.inside f.shaped)

module _ (linked : Bool) (s : List ℕ) (formats : List Format) (frames : List Frame) (counts : List ℕ) (f n : ℕ) (last : Format) (o : ℕ) (w : Going linked s formats frames counts f n last o) where
  same-sofar : handed linked f n last counts ≡ sofar linked w.seen
  same-sofar = let m = w.formats-few in rw (w.counted f (omega arith), w.formats-counted, w.frames-counted, w.last-is)

  same-rule : first_row (rows s o (handed linked f n last counts)) ≡ broken_at (course linked s) w.seen o
  same-rule = rw same-sofar

  pub going-stops : (r : ℕ) → o < length s → r ≡ first_row (rows s o (handed linked f n last counts)) → (r ≡ 0 → ⊥) → refused_by r o ≡ walked linked s
  unfolding after_walk
  going-stops r h e z = rw (stops (course linked s) w.seen o w.walking r h (sym (e ∙ same-rule)) z)

  module _ (h : o < length s) (e : 0 ≡ first_row (rows s o (handed linked f n last counts))) where
    pub fine-here : Fine s o (handed linked f n last counts)
    fine-here = fine s o (handed linked f n last counts) (row-none (rows s o (handed linked f n last counts)) (numbered s o (handed linked f n last counts)) (sym e))

    on : Walking (course linked s) (after s w.seen o) (o + len_at s o)
    on = goes (course linked s) w.seen o w.walking (steady linked s) h (row-none ((course linked s).rows w.seen o) ((steady linked s).numbered w.seen o) (sym (e ∙ same-rule)))

    pub going-format : (x : Format) → is_format (kind_at s o) ≡ true → x ≡ format_at (format_of (kind_at s o)) s o → Going linked s (set formats f x) frames counts (f + 1) n x (o + len_at s o)
    going-format x q p =
        let few : f < formats_most = fine-here.fewer q in
        let l : List Format = w.seen.formats in
        record {
          seen = record { formats = l ++ (x ∷ []); frames = w.seen.frames };
          walking = rw (after-format s w.seen o q, ← p) at on;
          formats-kept = rw (w.formats-kept, w.formats-counted) (pad-set formats_most no_format l x (omega (arith, w.formats-counted)));
          formats-counted = simp length-append (omega (arith, w.formats-counted));
          formats-few = omega arith;
          frames-kept = w.frames-kept;
          frames-counted = w.frames-counted;
          frames-few = w.frames-few;
          last-is = sym (last_more l x);
          size = w.size;
          counted = w.counted;
        }

    pub going-frame : (x : Frame) → is_format (kind_at s o) ≡ false → is_frame (kind_at s o) ≡ true → x ≡ frame_at (format_of (kind_at s o)) f s o → Going linked s formats (set frames n x) (set counts f (byte s o 3)) f (n + 1) last (o + len_at s o)
    going-frame x p q r =
        let few : n < frames_most = fine-here.few q in
        let l : List Frame = w.seen.frames in
        record {
          seen = record { formats = w.seen.formats; frames = l ++ (x ∷ []) };
          walking = rw (after_frame s w.seen o p q, ← w.formats-counted, ← r) at on;
          formats-kept = w.formats-kept;
          formats-counted = w.formats-counted;
          formats-few = w.formats-few;
          frames-kept = rw (w.frames-kept, w.frames-counted) (pad-set frames_most no_frame l x (omega (arith, w.frames-counted)));
          frames-counted = simp length-append (omega (arith, w.frames-counted));
          frames-few = omega arith;
          last-is = w.last-is;
          size = length-set counts f (byte s o 3) ∙ w.size;
          counted = counted-more counts f (byte s o 3) w.seen.frames x (omega (arith, w.size, w.formats-few)) (of_format (format_of (kind_at s o)) f s o x r) (fine-here.numbered q) w.counted;
        }

    pub going-other : is_format (kind_at s o) ≡ false → is_frame (kind_at s o) ≡ false → Going linked s formats frames counts f n last (o + len_at s o)
    going-other p q =
        record {
          seen = w.seen;
          walking = rw (after-other s w.seen o p q) at on;
          formats-kept = w.formats-kept;
          formats-counted = w.formats-counted;
          formats-few = w.formats-few;
          frames-kept = w.frames-kept;
          frames-counted = w.frames-counted;
          frames-few = w.frames-few;
          last-is = w.last-is;
          size = w.size;
          counted = w.counted;
        }

  -- ---- the end
  module _ (h : length s ≤ o) (v : Verdict) (e : v ≡ late_by (λ i. get_or formats i no_format) (λ i. get_or counts (i + 1) 0) f (byte s 0 3)) where
    v-is : v ≡ late s w.seen
    v-is =
        e ∙ late-same (λ i. get_or formats i no_format) (λ i. get_or w.seen.formats i no_format) (λ i. get_or counts (i + 1) 0) (λ i. count_under (i + 1) w.seen.frames) f (byte s 0 3)
        (λ i. rw w.formats-kept (pad-at formats_most no_format w.seen.formats i))
        (λ i k. let m = w.formats-few in w.counted (i + 1) (omega arith))
        ∙ (rw w.formats-counted)

    ended : walked linked s ≡ answer v s w.seen
    unfolding after_walk
    ended = rw (ends (course linked s) w.seen o w.walking h, v-is)

    pub going-refuses : (k p : ℕ) → v ≡ refuse k p → refused_by k p ≡ walked linked s
    going-refuses k p q = sym (ended ∙ (rw q))

    pub going-accepts : v ≡ accept → ◌≡◌ {A = Streaming} (record { verdict = accept; endpoint = byte s 0 6; link = byte s 0 8; format_count = f; formats = formats; frame_count = n; frames = frames }) (walked linked s)
    unfolding accepted_with
    going-accepts q = rw (w.formats-kept, w.frames-kept, w.formats-counted, w.frames-counted) (sym (ended ∙ (rw q)))
