-- The formats and frames of a block that breaks no rule: each stands where it says, as its descriptor has it, and none is left out.
use Rattle.rules.specs.Verdicts.{accept}
use Prim.Native.Nat.{ℕ, ◌+◌, ◌-◌, ◌/◌, ◌%◌, ◌^◌, ◌≤◌, ◌<◌}
use mathlib.Core.Path.{◌≡◌, refl, sym, ap, ◌∙◌}
use mathlib.Core.List.{List, [], ◌∷◌, ◌++◌}
use mathlib.Core.Bool.{Bool, true, false, not, true≢false}
use mathlib.Core.Logic.{⊎_elim}
use lib.ListN.{length, take, length-append, get_or-append}
use lib.Dec.{eqb}
use borrow.Author.Tests.{eqb-true, eqb-false, not-false}
use native.Mathlib.Omega.{arith}
use native.Mathlib.Decide.{dec_le, ℕ_discrete}
use Rattle.rules.specs.IfElse.{if_else}
use Rattle.rules.specs.Walk.{Reached, first, next, Clean}
use Rattle.rules.proofs.Firsts.{lt-or-ge}
use Rattle.rules.proofs.Rows.{or-first, or-second}
use Rattle.rules.proofs.Growing.{at_old, at_new, each_more}
use Rattle.rules.proofs.Passing.{passes}
use Rattle.entities.specs.declared.Table.{Table}
use Rattle.intervals.proofs.Deciding.{offered-decides}
use Rattle.streaming_descriptors.specs.Descriptors.{kind_at, len_at, is_format, is_frame, format_of, k_at, intervals_at, no_format, no_frame, format_at, frame_at}
use Rattle.streaming_rules.specs.Rules.{misplaced, offers_under}
use Rattle.streaming_descriptors.specs.declared.Kind.{Kind}
use Rattle.streaming_descriptors.specs.declared.Kind.TheVariants.{Header, Formats, Frames, Unread, Other}
use Rattle.streaming_rules.specs.declared.Sofar.{Sofar}
use Rattle.streaming_descriptors.specs.declared.Format.{Format}
use Rattle.streaming_descriptors.specs.declared.Frame.{Frame}
use Rattle.streaming_rules.proofs.Fine.{Fine, fine, head-sizes, header-first, format-of, frame-of}
use Rattle.streaming_rules.proofs.Sizes.{sizes-true}
use Rattle.streaming_rules.proofs.Flags.{flag-right, line-right}
use Rattle.streaming.specs.Answer.{Seen, linked_to, endpoint_of, link_of, last_of, sofar, after, accepted_with}
use Rattle.streaming.specs.Inner.{streaming_of}
use Rattle.streaming.specs.Broken.{block_course, format_in, Sound}
use Rattle.streaming.specs.Listed.{frame_in, Starts, FormatStands, numbered, FrameStands, Listed}
use Rattle.streaming.specs.declared.Streaming.{Streaming}
use Rattle.streaming.proofs.Links.{link-right}
use Rattle.streaming.proofs.Going.{after-format, after_frame, after-other}
use Rattle.streaming.proofs.ExactlyWhen.{accepted, tables}

-- a frame that is not misplaced: there is a format, and the last one is of its kind
some-format : (f : ℕ) (a : Sofar) → misplaced f a ≡ false → a.formats ≡ 0 → ⊥
unfolding misplaced
some-format f a h e = eqb-false a.formats 0 (or-first (eqb a.formats 0) (not (eqb a.last.kind f)) h) e

last-kind : (f : ℕ) (a : Sofar) → misplaced f a ≡ false → a.last.kind ≡ f
unfolding misplaced
last-kind f a h = eqb-true a.last.kind f (not-false (eqb a.last.kind f) (or-second (eqb a.formats 0) (not (eqb a.last.kind f)) h))

module _ (t : Table) (s : List ℕ) where
  -- one format more, behind the frame
  format-behind : (l : List Format) (x : Format) (before : List Frame) (y : Frame) → y.offset < x.offset → FrameStands t s l before y → FrameStands t s (l ++ (x ∷ [])) before y
  format-behind l x before y k h =
      record {
        starts = h.starts;
        same = rw old h.same;
        low = h.low;
        high = simp length-append (omega (arith, h.high));
        kind = rw old h.kind;
        under = rw old h.under;
        between = λ j a b. ⊎_elim (λ c. rw (at_old no_format l x j c) (h.between j a c)) (λ c. rw (at_new no_format l x j c b) k) (lt-or-ge j (length l));
        number = h.number;
        order = h.order;
        default = h.default;
        line = rw old h.line;
        sizes = rw old h.sizes;
      }
    where
      old : numbered (l ++ (x ∷ [])) y.format ≡ numbered l y.format
      old = at_old no_format l x (y.format - 1) (omega (arith, h.low, h.high))

  -- ---- what holds before the descriptor at o
  record Held (a : Seen) (o : ℕ) : Type 0 where
    formats : (i : ℕ) → i < length a.formats → FormatStands t s i (take i a.formats) (format_in a i)
    formats-before : (i : ℕ) → i < length a.formats → (format_in a i).offset < o
    frames : (i : ℕ) → i < length a.frames → FrameStands t s a.formats (take i a.frames) (frame_in a i)
    frames-before : (i : ℕ) → i < length a.frames → (frame_in a i).offset < o

  module _ (a : Seen) (o p : ℕ) (on : o < p) (f : Fine s o (sofar (linked_to t (link_of s)) a)) (here : Starts t s o) (h : Held a o) where
    behind : (n : ℕ) → n < o → n < p
    behind n l = omega arith

    new-format : is_format (kind_at s o) ≡ true → FormatStands t s (length a.formats) a.formats (format_at (format_of (kind_at s o)) s o)
    unfolding format_at
    new-format q =
        record { starts = here; kind = format-of (kind_at s o) _ q refl; same = refl; number = f.index q; order = h.formats-before; flag = flag-right (format_of (kind_at s o)) s o (f.flag q) }

    held-format : is_format (kind_at s o) ≡ true → Held (record { formats = a.formats ++ (format_at (format_of (kind_at s o)) s o ∷ []); frames = a.frames }) p
    unfolding format_at
    held-format q =
        let x : Format = format_at (format_of (kind_at s o)) s o in
        record {
          formats = each_more no_format a.formats x (FormatStands t s) h.formats (new-format q);
          formats-before = each_more no_format a.formats x (λ i before y. y.offset < p) (λ i l. behind _ (h.formats-before i l)) on;
          frames = λ i l. format-behind a.formats x (take i a.frames) (frame_in a i) (h.frames-before i l) (h.frames i l);
          frames-before = λ i l. behind _ (h.frames-before i l);
        }

    new-frame : is_frame (kind_at s o) ≡ true → FrameStands t s a.formats a.frames (frame_at (format_of (kind_at s o)) (length a.formats) s o)
    unfolding frame_at offers_under
    new-frame q =
        record {
          starts = here;
          same = rw same_kind;
          low = omega (arith, some);
          high = omega arith;
          kind = rw same_kind (frame-of (kind_at s o) _ q refl);
          under = h.formats-before (length a.formats - 1) (omega (arith, some));
          between = λ j l m. absurd (omega arith);
          number = f.numbered q;
          order = h.frames-before;
          default = (offered-decides s (o + intervals_at) (k_at (format_of (kind_at s o)) s o) _).0 (f.default q);
          line = λ u c. line-right (format_of (kind_at s o)) s o (last_of a.formats) (f.line q) (sym same_kind ∙ u) c;
          sizes = λ u c. let e = sym same_kind ∙ u in rw e (sizes-true (last_of a.formats) (length a.formats) s o c (rw e at (f.true-size q)));
        }
      where
        some : length a.formats ≡ 0 → ⊥
        some = some-format (format_of (kind_at s o)) (sofar (linked_to t (link_of s)) a) (f.placed q)

        same_kind : (last_of a.formats).kind ≡ format_of (kind_at s o)
        same_kind = last-kind (format_of (kind_at s o)) (sofar (linked_to t (link_of s)) a) (f.placed q)

    held-frame : is_frame (kind_at s o) ≡ true → Held (record { formats = a.formats; frames = a.frames ++ (frame_at (format_of (kind_at s o)) (length a.formats) s o ∷ []) }) p
    unfolding frame_at
    held-frame q =
        let x : Frame = frame_at (format_of (kind_at s o)) (length a.formats) s o in
        record {
          formats = h.formats;
          formats-before = λ i l. behind _ (h.formats-before i l);
          frames = each_more no_frame a.frames x (λ i. FrameStands t s a.formats) h.frames (new-frame q);
          frames-before = each_more no_frame a.frames x (λ i before y. y.offset < p) (λ i l. behind _ (h.frames-before i l)) on;
        }

    held-other : Held a p
    held-other = record { formats = h.formats; formats-before = λ i l. behind _ (h.formats-before i l); frames = h.frames; frames-before = λ i l. behind _ (h.frames-before i l) }

    held_after : Held (after s a o) p
    held_after = go (is_format (kind_at s o)) refl (is_frame (kind_at s o)) refl
      where
        go : (b : Bool) → is_format (kind_at s o) ≡ b → (c : Bool) → is_frame (kind_at s o) ≡ c → Held (after s a o) p
        go true q c r = rw (after-format s a o q) (held-format q)
        go false q true r = rw (after_frame s a o q r) (held-frame r)
        go false q false r = rw (after-other s a o q r) held-other

  module _ (clean : Clean (block_course t s)) where
    held : {a : Seen} {o : ℕ} → Reached (block_course t s) a o → Held a o
    held first = record { formats = λ i h. absurd (omega arith); formats-before = λ i h. absurd (omega arith); frames = λ i h. absurd (omega arith); frames-before = λ i h. absurd (omega arith) }
    held (next {a = a} {o = o} r h p q) =
        held_after a o (o + len_at s o) (omega arith) (fine s o (sofar (linked_to t (link_of s)) a) (clean a o r h)) (record { seen = a; there = r; inside = h }) (held r)

  -- ---- none is left out
  -- one of the list has the offset
  abbrev HasFormat : ℕ → Seen → Type 0
  HasFormat o a = (i : ℕ) × (i < length a.formats) × ((format_in a i).offset ≡ o)

  abbrev HasFrame : ℕ → Seen → Type 0
  HasFrame o a = (i : ℕ) × (i < length a.frames) × ((frame_in a i).offset ≡ o)

  keeps-format : (o : ℕ) (a : Seen) (p : ℕ) → HasFormat o a → HasFormat o (after s a p)
  unfolding after
  keeps-format o a p x = (x.0, simp length-append (omega (arith, x.1)), rw (get_or-append a.formats (if_else (is_format (kind_at s p)) (format_at (format_of (kind_at s p)) s p ∷ []) []) no_format x.0 x.1) x.2)

  keeps-frame : (o : ℕ) (a : Seen) (p : ℕ) → HasFrame o a → HasFrame o (after s a p)
  unfolding after
  keeps-frame o a p x = (x.0, simp length-append (omega (arith, x.1)), rw (get_or-append a.frames (if_else (is_frame (kind_at s p)) (frame_at (format_of (kind_at s p)) (length a.formats) s p ∷ []) []) no_frame x.0 x.1) x.2)

  gains-format : (o : ℕ) (a : Seen) → is_format (kind_at s o) ≡ true → HasFormat o (after s a o)
  unfolding format_at
  gains-format o a q =
      rw (after-format s a o q)
      (length a.formats, simp length-append (omega arith), ap (λ (x : Format). x.offset) (at_new no_format a.formats (format_at (format_of (kind_at s o)) s o) (length a.formats) (omega arith) (simp length-append (omega arith))))

  gains-frame : (o : ℕ) (a : Seen) → is_format (kind_at s o) ≡ false → is_frame (kind_at s o) ≡ true → HasFrame o (after s a o)
  unfolding frame_at
  gains-frame o a p q =
      rw (after_frame s a o p q)
      (length a.frames, simp length-append (omega arith), ap (λ (x : Frame). x.offset) (at_new no_frame a.frames (frame_at (format_of (kind_at s o)) (length a.formats) s o) (length a.frames) (omega arith) (simp length-append (omega arith))))

  no-format : (k : Kind) → is_frame k ≡ true → is_format k ≡ false
  no-format Header h = refl
  no-format (Formats f) h = absurd (true≢false (sym h))
  no-format (Frames f) h = refl
  no-format Unread h = refl
  no-format Other h = refl

  -- ---- the whole
  agree : (m n : ℕ) → ((m ≡ n → ⊥) → ⊥) → m ≡ n
  agree m n h = go (ℕ_discrete m n)
    where
      go : Dec (m ≡ n) → m ≡ n
      go (yes e) = e
      go (no e) = absurd (h e)

  least : (m n : ℕ) → ((m ≤ n → ⊥) → ⊥) → m ≤ n
  least m n h = go (dec_le m n)
    where
      go : Dec (m ≤ n) → m ≤ n
      go (yes e) = e
      go (no e) = absurd (h e)

  pub listed : (a : Seen) → Sound t s a → Listed t s a
  listed a w =
      record {
        endpoint = eqb-true (endpoint_of s / 2 ^ 7 % 2) 1 (head.endpoint (rw header-here));
        link = link-right t (link_of s) (head.linked (rw header-here));
        formats = whole.formats;
        frames = whole.frames;
        each-format = λ o d q. passes (block_course t s) (HasFormat o) (keeps-format o) d.seen o (gains-format o d.seen q) d.there w.walked.there d.inside;
        each-frame = λ o d q. passes (block_course t s) (HasFrame o) (keeps-frame o) d.seen o (gains-frame o d.seen (no-format (kind_at s o) q) q) d.there w.walked.there d.inside;
        counts = λ i l. agree _ _ (w.counts i l);
        defaults = λ i l. (least _ _ (λ n. w.defaults i l (λ p. n p.0)), least _ _ (λ n. w.defaults i l (λ p. n p.1)));
        number = w.number;
      }
    where
      -- the descriptor at 0 is the header
      header-here : kind_at s 0 ≡ Header
      header-here = header-first t.count s w.walked.block

      head : Fine s 0 (sofar (linked_to t (link_of s)) (record { formats = []; frames = [] }))
      head = fine s 0 _ (w.walked.each (record { formats = []; frames = [] }) 0 first (omega (arith, (head-sizes t.count s w.walked.block).0)))

      whole : Held a (length s)
      whole = held w.walked.each w.walked.there

  -- what an accepted answer lists
  pub lists : (x : Streaming) → x ≡ streaming_of t s → x.verdict ≡ accept → (a : Seen) × Listed t s a × (x ≡ accepted_with s a)
  lists x e v =
      let p = (accepted t s).0 (sym (ap (λ (y : Streaming). y.verdict) e) ∙ v) in
      (p.0, listed p.0 p.1, e ∙ tables t s p.0 p.1)
