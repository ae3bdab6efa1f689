-- A check says yes exactly when every one of 41, the block's own rules and 42 to 46 holds; otherwise it gives the first that does not.
use Rattle.rules.specs.Verdicts.{Verdict, accept, refuse}
use Prim.Native.Nat.{ℕ, zero, suc, ◌+◌, ◌≤◌, ◌<◌}
use mathlib.Core.Path.{◌≡◌, refl, sym, ap, ◌∙◌}
use mathlib.Core.List.{List, [], ◌∷◌}
use mathlib.Core.Bool.{Bool, true, false, not, ◌&&◌, ◌||◌, true≢false}
use mathlib.Core.Logic.{◌↔◌}
use lib.ListN.{length, get_or}
use lib.Dec.{ltb, leb, eqb}
use borrow.Author.Tests.{eq-eqb, ne_eqb, le-ltb, eqb-true, eqb-false, ltb-false, leb-true, leb-false}
use native.Mathlib.Omega.{arith}
use Rattle.le.specs.Le.{byte}
use Rattle.rules.specs.IfElse.{if_else}
use Rattle.rules.specs.Pad.{pad}
use Rattle.rules.specs.First.{First}
use Rattle.rules.specs.Numbered.{Row, row, first_row}
use Rattle.rules.specs.Asked.{AllKept, FirstFails}
use Rattle.rules.proofs.Verdicts.{apart, same-refusal}
use Rattle.rules.proofs.Rows.{or-first, or-second}
use Rattle.rules.proofs.Firsts.{first-map, first-unique}
use Rattle.rules.proofs.Padded.{pad-at}
use Rattle.rules.proofs.Asked.{Tells, Tell, Numbered, Comes as ComesBy, Comes.kept, Comes.fails, comes as comes-by, rows-kept, rows-fail, fails-above}
use Rattle.entities.specs.declared.Table.{Table}
use Rattle.intervals.specs.Intervals.{Offered, offered}
use Rattle.intervals.proofs.Deciding.{offered-decides}
use Rattle.sizes.specs.Sizes.{frame_most, payload_least, payload_most, frame_size_broken, payload_size_broken}
use Rattle.sizes.proofs.Limits.{frame-sound, payload-sound}
use Rattle.streaming_descriptors.specs.Descriptors.{no_frame, kind_at, format_of, k_at, intervals_at}
use Rattle.streaming_rules.specs.Rules.{offers_under, offers_at}
use Rattle.streaming_descriptors.specs.declared.Frame.{Frame}
use Rattle.streaming.specs.Answer.{Seen, accepted_with, refused_by}
use Rattle.streaming.specs.Inner.{streaming_of}
use Rattle.streaming.specs.declared.Streaming.{Streaming}
use Rattle.rules.proofs.Places.{Says, first-place}
use Rattle.streaming.proofs.ExactlyWhen.{Ends, taken, given_back, reads, tables, all-zero}
use Rattle.probe.specs.Fields.{probe_size, fields_of}
use Rattle.probe_check.specs.Answer.{frame_in, format_missing, has_number, frame_place, frame_rows, check_rows, given, check_of}
use Rattle.probe_check.specs.Broken.{offset_in, FrameGiven, IntervalGiven, FrameNamed, check_rules, Read, Yes, No, of_length, of-block, of-rule}
use Rattle.probe.specs.declared.Probe.{Probe}
use Rattle.probe_check.proofs.Checking.{check-41, check-own}

-- ---- each test tells of its rule
tells-42 : (n c : ℕ) → Tells (format_missing n c) ((1 ≤ n) × (n ≤ c))
unfolding format_missing
tells-42 n c = record { up = λ h r. true≢false (sym h ∙ (rw (ne_eqb n 0 (λ e. omega (arith, r.0)), le-ltb c n r.1))); down = down }
  where
    down : (eqb n 0 || ltb c n) ≡ false → (1 ≤ n) × (n ≤ c)
    down h = let z = eqb-false n 0 (or-first (eqb n 0) (ltb c n) h) in (omega (arith, z), ltb-false c n (or-second (eqb n 0) (ltb c n) h))

tells-45 : (n : ℕ) → Tells (frame_size_broken n) ((1 ≤ n) × (n ≤ frame_most))
unfolding frame_size_broken
tells-45 n = record { up = λ h r. true≢false (sym h ∙ (rw (ne_eqb n 0 (λ e. omega (arith, r.0)), le-ltb frame_most n r.1))); down = λ h. ((frame-sound n h).low, (frame-sound n h).high) }

tells-46 : (n : ℕ) → Tells (payload_size_broken n) ((payload_least ≤ n) × (n ≤ payload_most))
unfolding payload_size_broken
tells-46 n = record { up = λ h r. true≢false (sym h ∙ (rw (le-ltb n payload_least r.0, le-ltb payload_most n r.1))); down = λ h. ((payload-sound n h).low, (payload-sound n h).high) }

tells-offer : (s : List ℕ) (o x : ℕ) → Tells (not (offers_at s o x)) (Offered s (o + intervals_at) (k_at (format_of (kind_at s o)) s o) x)
unfolding offers_under
tells-offer s o x = go (offered s (o + intervals_at) (k_at (format_of (kind_at s o)) s o) x) (offered-decides s (o + intervals_at) (k_at (format_of (kind_at s o)) s o) x)
  where
    go : (b : Bool) {P : Type 0} → (b ≡ true) ↔ P → Tells (not b) P
    go true d = record { up = λ h p. true≢false (sym h); down = λ h. d.0 refl }
    go false d = record { up = λ h p. true≢false (sym (d.1 p)); down = λ h. absurd (true≢false h) }

-- ---- the frame that is named
number_of : (s : List ℕ) (format number : ℕ) (f : Frame) → has_number s format number f ≡ true → (f.format ≡ format) × (byte s f.offset 3 ≡ number)
unfolding has_number
number_of s format number f h = go (eqb f.format format) refl (eqb (byte s f.offset 3) number) refl h
  where
    go : (b : Bool) → eqb f.format format ≡ b → (c : Bool) → eqb (byte s f.offset 3) number ≡ c → (b && c) ≡ true → (f.format ≡ format) × (byte s f.offset 3 ≡ number)
    go true p true q h = (eqb-true _ _ p, eqb-true _ _ q)
    go true p false q h = absurd (true≢false (sym h))
    go false p c q h = absurd (true≢false (sym h))

of_number : (s : List ℕ) (format number : ℕ) (f : Frame) → (f.format ≡ format) × (byte s f.offset 3 ≡ number) → has_number s format number f ≡ true
unfolding has_number
of_number s format number f h = rw (eq-eqb f.format format h.0, eq-eqb (byte s f.offset 3) number h.1)

module _ (s : List ℕ) (a : Seen) (p : Probe) where
  padded : List Frame
  padded = pad 64 no_frame a.frames

  i : ℕ
  i = frame_place s padded (length a.frames) p.format p.frame

  same-frame : (k : ℕ) → frame_in padded k ≡ get_or a.frames k no_frame
  unfolding padded
  same-frame k = pad-at 64 no_frame a.frames k

  first_frame : First (FrameGiven s a p) (length a.frames) i
  unfolding i
  first_frame =
      first-map (Says (λ k. has_number s p.format p.frame (frame_in padded k))) (FrameGiven s a p) (length a.frames) i
      (λ k l h. rw (same-frame k) at (number_of s p.format p.frame (frame_in padded k) h))
      (λ k l h. of_number s p.format p.frame (frame_in padded k) (rw (same-frame k) h))
      (first-place (λ k. has_number s p.format p.frame (frame_in padded k)) (length a.frames))

  -- the rows of 42 to 46
  five : List Row
  five =
      row 42 (format_missing p.format (length a.formats))
      ∷ row 43 (leb (length a.frames) i)
      ∷ row 44 (not (offers_at s (offset_in a i) p.interval))
      ∷ row 45 (frame_size_broken p.frame_size)
      ∷ row 46 (payload_size_broken p.payload_size)
      ∷ []

  rows_are : check_rows s (accepted_with s a) p ≡ five
  unfolding check_rows frame_rows accepted_with five i padded
  rows_are = rw (pad-at 64 no_frame a.frames (frame_place s (pad 64 no_frame a.frames) (length a.frames) p.format p.frame))

  tells-43 : Tells (leb (length a.frames) i) ((j : ℕ) × FrameNamed s a p j)
  tells-43 =
      record {
        up = λ h f. let m = leb-true (length a.frames) i h in let e = f.1.0 in first_frame.before f.0 (omega arith) (f.1.1.here e);
        down = λ h. (i, (leb-false (length a.frames) i h, first_frame));
      }

  named : (j : ℕ) → FrameNamed s a p j → j ≡ i
  named j f = first-unique (FrameGiven s a p) (length a.frames) j i f.1 first_frame

  tells-44 : (j : ℕ) × FrameNamed s a p j → Tells (not (offers_at s (offset_in a i) p.interval)) ((j : ℕ) → FrameNamed s a p j → IntervalGiven s (offset_in a j) p)
  tells-44 f =
      let t = tells-offer s (offset_in a i) p.interval in
      record {
        up = λ h g. t.up h (rw (named f.0 f.1) at (g f.0 f.1));
        down = λ h j g. rw (named j g) (t.down h);
      }

  tell : Tell five (check_rules s a p)
  unfolding five
  tell = (
    refl,
    tells-42 p.format (length a.formats),
    λ k42. (
      refl,
      tells-43,
      λ k43. (
        refl,
        tells-44 k43,
        λ k44. (
          refl,
          tells-45 p.frame_size,
          λ k45.
              (refl, tells-46 p.payload_size, λ k46. tt),
        ),
      ),
    ),
  )

  numbered : Numbered (check_rules s a p)
  numbered = (omega arith, (omega arith, (omega arith, (omega arith, (omega arith, tt)))))

with-verdict : (s : List ℕ) (a : Seen) → (accepted_with s a).verdict ≡ accept
unfolding accepted_with
with-verdict s a = refl

refused-verdict : (k o : ℕ) → (refused_by k o).verdict ≡ refuse k o
unfolding refused_by
refused-verdict k o = refl

-- what a check comes to
data Comes (t : Table) (s b : List ℕ) : Verdict → Type 0 where
  agreed : Yes t s b → Comes t s b accept
  objected : (k o : ℕ) → No t s b k o → Comes t s b (refuse k o)

module _ (t : Table) (s b : List ℕ) where
  module _ (a : Seen) (w : Read t s b a) where
    check-is : check_of t s b ≡ given (first_row (five s a (fields_of b)))
    unfolding check_of if_else accepted_with
    check-is = rw (eq-eqb (length b) (probe_size t.revision) w.whole, tables t s a w.sound, with-verdict s a) (ap (λ (ws : List Row). given (first_row ws)) (rows_are s a (fields_of b)))

    read-comes : Comes t s b (given (first_row (five s a (fields_of b))))
    unfolding given
    read-comes = go (first_row (five s a (fields_of b))) (comes-by (five s a (fields_of b)) (check_rules s a (fields_of b)) (tell s a (fields_of b)) (numbered s a (fields_of b)))
      where
        go : (n : ℕ) → ComesBy (check_rules s a (fields_of b)) n → Comes t s b (given n)
        go n (kept k) = agreed (record { seen = a; read = w; kept = k })
        go n (fails k f) = objected (suc k) 0 (of-rule a w (suc k) f)

    gives-no : (k : ℕ) → FirstFails (check_rules s a (fields_of b)) k → check_of t s b ≡ refuse k 0
    unfolding given
    gives-no k f = check-is ∙ go k (positive k f) (rows-fail (five s a (fields_of b)) (check_rules s a (fields_of b)) k (tell s a (fields_of b)) f)
      where
        positive : (k : ℕ) → FirstFails (check_rules s a (fields_of b)) k → 0 < k
        positive k f = fails-above (check_rules s a (fields_of b)) k (numbered s a (fields_of b)) f

        go : (k : ℕ) → 0 < k → first_row (five s a (fields_of b)) ≡ k → given (first_row (five s a (fields_of b))) ≡ refuse k 0
        go zero l e = absurd (omega arith)
        go (suc k) l e = rw e

    gives-yes : AllKept (check_rules s a (fields_of b)) → check_of t s b ≡ accept
    unfolding given
    gives-yes k = check-is ∙ (rw (rows-kept (five s a (fields_of b)) (check_rules s a (fields_of b)) (tell s a (fields_of b)) k))

  yes-gives : Yes t s b → check_of t s b ≡ accept
  yes-gives y = gives-yes y.seen y.read y.kept

  no-gives : {k o : ℕ} → No t s b k o → check_of t s b ≡ refuse k o
  no-gives (of_length n) = sym (check-41 t s b (refuse 41 0) n refl)
  no-gives (of-block k o l w) = sym (check-own t s b (refuse k o) l (refused_by k o) (sym (all-zero t s w)) k o (refused-verdict k o) refl)
  no-gives (of-rule a w k f) = gives-no a w k f

  -- every check comes to one or the other
  comes : Comes t s b (check_of t s b)
  comes = at (eqb (length b) (probe_size t.revision)) refl
    where
      ends : length b ≡ probe_size t.revision → (x : Streaming) → streaming_of t s ≡ x → Ends t s x → Comes t s b (check_of t s b)
      ends l x q (taken a w) = let r : Read t s b a = record { whole = l; sound = w } in rw (check-is a r) (read-comes a r)
      ends l x q (given_back k o w) = rw (no-gives (of-block k o l w)) (objected k o (of-block k o l w))

      at : (c : Bool) → eqb (length b) (probe_size t.revision) ≡ c → Comes t s b (check_of t s b)
      at true q = ends (eqb-true (length b) (probe_size t.revision) q) (streaming_of t s) refl (reads t s)
      at false q = let n = eqb-false (length b) (probe_size t.revision) q in rw (no-gives (of_length n)) (objected 41 0 (of_length n))

  -- ---- EXACTLY WHEN
  -- yes exactly when every one of 41, the block's own rules and 42 to 46 holds
  pub says-yes : (check_of t s b ≡ accept) ↔ Yes t s b
  says-yes = (to (check_of t s b) comes, yes-gives)
    where
      to : (v : Verdict) → Comes t s b v → v ≡ accept → Yes t s b
      to v (agreed y) e = y
      to v (objected k o n) e = absurd (apart k o e)

  -- otherwise the first that does not
  pub says-no : (k o : ℕ) → (check_of t s b ≡ refuse k o) ↔ No t s b k o
  says-no k o = (to (check_of t s b) comes, no-gives)
    where
      to : (v : Verdict) → Comes t s b v → v ≡ refuse k o → No t s b k o
      to v (agreed y) e = absurd (apart k o (sym e))
      to v (objected j p n) e = let q = same-refusal j p k o e in rw (← q.0, ← q.1) n
