-- The frames of an accepted block: there are at most 64, and each lies within the block with its intervals.
use Rattle.rules.specs.Verdicts.{accept}
use Prim.Native.Nat.{ℕ, ◌+◌, ◌≤◌, ◌<◌}
use mathlib.Core.Path.{◌≡◌, refl, sym, ap, ◌∙◌}
use mathlib.Core.List.{List, [], ◌∷◌, ◌++◌, append-nil}
use mathlib.Core.Bool.{Bool, true, false}
use lib.ListN.{length, get_or, length-append}
use native.Mathlib.Omega.{arith}
use Rattle.rules.specs.IfElse.{if_else}
use Rattle.rules.specs.Walk.{Reached, first, next, Clean}
use Rattle.rules.proofs.Padded.{pad-at}
use Rattle.rules.proofs.Growing.{each_more}
use Rattle.entities.specs.declared.Table.{Table}
use Rattle.streaming_descriptors.specs.Descriptors.{kind_at, is_frame, format_of, no_frame, frame_at, frame_length_at}
use Rattle.streaming_rules.specs.Rules.{frames_most}
use Rattle.streaming_descriptors.specs.declared.Frame.{Frame}
use Rattle.streaming_rules.proofs.Fine.{Fine, fine, frame-inside}
use Rattle.streaming.specs.Answer.{Seen, sofar, after, course, accepted_with}
use Rattle.streaming.specs.Inner.{streaming_of}
use Rattle.streaming.specs.declared.Streaming.{Streaming}
use Rattle.streaming.proofs.ExactlyWhen.{accepted, tables}

-- a frame's descriptor, with its intervals, lies within the block
abbrev pub Within : List ℕ → ℕ → Type 0
Within s o = o + frame_length_at (format_of (kind_at s o)) s o ≤ length s

record Held (s : List ℕ) (l : List Frame) : Type 0 where
  few : length l ≤ frames_most
  inside : (i : ℕ) → i < length l → Within s (get_or l i no_frame).offset

held_more : (s : List ℕ) (l : List Frame) (x : Frame) → length l < frames_most → Within s x.offset → Held s l → Held s (l ++ (x ∷ []))
held_more s l x n w h =
    record { few = simp length-append (omega arith); inside = each_more no_frame l x (λ i before (y : Frame). Within s y.offset) h.inside w }

frame-offset : (f n : ℕ) (s : List ℕ) (o : ℕ) → (frame_at f n s o).offset ≡ o
unfolding frame_at
frame-offset f n s o = refl

module _ (linked : Bool) (s : List ℕ) (clean : Clean (course linked s)) where
  fine-at : (a : Seen) (o : ℕ) → Reached (course linked s) a o → o < length s → Fine s o (sofar linked a)
  fine-at a o r h = fine s o (sofar linked a) (clean a o r h)

  step : (a : Seen) (o : ℕ) → Fine s o (sofar linked a) → Held s a.frames → Held s (after s a o).frames
  unfolding after if_else
  step a o f h = go (is_frame (kind_at s o)) refl
    where
      go : (b : Bool) → is_frame (kind_at s o) ≡ b → Held s (a.frames ++ if_else b (frame_at (format_of (kind_at s o)) (length a.formats) s o ∷ []) [])
      go false q = rw append-nil h
      go true q =
          held_more s a.frames (frame_at (format_of (kind_at s o)) (length a.formats) s o) (f.few q)
          (rw (frame-offset (format_of (kind_at s o)) (length a.formats) s o) (frame-inside (kind_at s o) s o (length s) q f.inside f.shaped)) h

  held : {a : Seen} {o : ℕ} → Reached (course linked s) a o → Held s a.frames
  held first = record { few = omega arith; inside = λ i h. absurd (omega arith) }
  held (next {a = a} {o = o} r h p q) = step a o (fine-at a o r h) (held r)

pub record FramesHeld (s : List ℕ) (x : Streaming) : Type 0 where
  pub few : x.frame_count ≤ frames_most
  pub inside : (i : ℕ) → i < x.frame_count → Within s (get_or x.frames i no_frame).offset

held_with : (s : List ℕ) (a : Seen) → Held s a.frames → FramesHeld s (accepted_with s a)
unfolding accepted_with
held_with s a h = record { few = h.few; inside = λ i k. rw (pad-at frames_most no_frame a.frames i) (h.inside i k) }

pub frames-held : (t : Table) (s : List ℕ) (x : Streaming) → x ≡ streaming_of t s → x.verdict ≡ accept → FramesHeld s x
frames-held t s x e v =
    let p = (accepted t s).0 (sym (ap (λ (y : Streaming). y.verdict) e) ∙ v) in
    rw (e, tables t s p.0 p.1) (held_with s p.0 (held _ s p.1.walked.each p.1.walked.there))
