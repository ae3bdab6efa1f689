-- WHAT THE CONVERTER WRITES, however its input is cut into reads: what the input's bytes alone say; and it stops at the record that they say.
use Rattle.std.proofs.Common.{◌≡◌, ℕ, ◌+◌, ◌-◌, ◌*◌, ◌<◌, true, ◌⊎◌, List, [], ◌∷◌, ◌++◌, length, take, replicate, sym, refl, ap, ◌∙◌, subst, inl, inr, append_assoc, append-nil, arith, length-append}
use lib.ListN.{length-replicate}
use lib.Seq.{paste, take-paste, take-length, length-paste}
use Rattle.text.specs.Put.{Put}
use Rattle.cuts.specs.Cuts.{cut_of, After, least_of}
use Rattle.cuts.proofs.Cut.{cut-append}
use Rattle.cuts.proofs.Goes.{after_none, at-end}
use Rattle.convert.specs.declared.Converter.{Converter}
use Rattle.convert.specs.declared.Reader.{Reader}
use Rattle.convert.specs.Convert.{converted, stopped_at}
use Rattle.convert.specs.Inner.{new_converter, new_reader, all_of, texts_of, So, over, so_far, part_of, left_of, Gone}
use Rattle.convert.specs.Run.{bytes_in, Step, Steps, Run, StoppedAt}
use Rattle.convert.proofs.Feeds.{so, folds, over_none, fed-fresh}
use Rattle.convert.proofs.Words.{stays, stays-silent, all-written, all-stopped}

abbrev pos : 0 < 64
pos = omega arith

-- what was put at the front is what stands there
pub front-is : {old text new : List ℕ} {r : ℕ} → Put old 0 text r new → take r new ≡ text
front-is {old} {text} {new} {r} p =
    ap (λ (l : List ℕ). take r l) p.bytes
    ∙ ap (λ (k : ℕ). take k (paste old 0 text (length text))) p.next
    ∙ take-paste old 0 text (length text) (omega (arith, p.fits, p.next)) (omega arith)
    ∙ take-length text

-- BYTES BEFORE, and one read more
module _ (a x : So) (bytes : List ℕ) (have : ℕ) (piece : List ℕ) (u : After 64 over a bytes x have piece) where
  pub joins : (input : List ℕ) (y : So) (have' : ℕ) (piece' : List ℕ) → After 64 over (so_far x.converter) (take have piece ++ input) y have' piece'
      → After 64 over a (bytes ++ input) (record { converter = y.converter; written = x.written ++ y.written }) have' piece'
  joins input y have' piece' v = record {
    many = u.many + v.many;
    whole = u.whole ++ v.whole;
    left = v.left;
    all =
        ap (◌++ input) u.all ∙ append_assoc u.whole u.left input
        ∙ ap (λ (l : List ℕ). u.whole ++ (l ++ input)) (sym u.kept)
        ∙ ap (u.whole ++◌) v.all
        ∙ sym (append_assoc u.whole v.whole v.left);
    full = length-append u.whole v.whole ∙ sums u.full v.full;
    short = v.short;
    read =
        so (ap (λ (s : So). s.converter) v.read) (ap (λ (s : So). x.written ++ s.written) v.read)
        ∙ ap (λ (s : So). over s (cut_of 64 v.whole)) u.read
        ∙ sym (folds a (cut_of 64 u.whole) (cut_of 64 v.whole))
        ∙ ap (over a) (sym (cut-append 64 pos u.many u.whole v.whole u.full));
    have₀ = v.have₀;
    kept = v.kept;
  }
    where
      sums : {p q : ℕ} → p ≡ u.many * 64 → q ≡ v.many * 64 → p + q ≡ (u.many + v.many) * 64
      sums e f = omega (arith, e, f)

  -- where it has stopped, no byte more matters
  module _ (h : x.converter.stopped ≡ true) where
    rests : (rs : List (List ℕ)) → over x rs ≡ x
    rests rs = so (stays x.converter h rs) (ap (x.written ++◌) (stays-silent x.converter h rs) ∙ append-nil x.written)

    pub decided : (more : List ℕ) → over a (cut_of 64 (bytes ++ more)) ≡ over x (cut_of 64 (take have piece))
    decided more =
        ap (λ (l : List ℕ). over a (cut_of 64 l)) (ap (◌++ more) u.all ∙ append_assoc u.whole u.left more)
        ∙ ap (over a) (cut-append 64 pos u.many u.whole (u.left ++ more) u.full)
        ∙ folds a (cut_of 64 u.whole) (cut_of 64 (u.left ++ more))
        ∙ ap (λ (s : So). over s (cut_of 64 (u.left ++ more))) (sym u.read)
        ∙ rests (cut_of 64 (u.left ++ more))
        ∙ sym (rests (cut_of 64 (take have piece)))

abbrev begin : So
begin = so_far new_converter

-- what was read before, and the reads after it
steps_on : (inputs : List (List ℕ)) (bytes text : List ℕ) (r : Reader) (piece : List ℕ) (r' : Reader) (piece' more : List ℕ)
    → After 64 over begin bytes (record { converter = r.converter; written = text }) r.have piece → Steps inputs r piece r' piece' more
    → After 64 over begin (bytes ++ bytes_in inputs) (record { converter = r'.converter; written = text ++ more }) r'.have piece'
steps_on [] bytes text r piece r' piece' more u (e, (f, g)) = rw (append-nil bytes, g, append-nil text, sym e, sym f) u
steps_on (input ∷ inputs) bytes text r piece r' piece' more u (x, (p, (s, (t, (v, (w, e)))))) =
    rw (e, sym (append_assoc bytes input (bytes_in inputs)), sym (append_assoc text s t))
    (steps_on inputs (bytes ++ input) (text ++ s) x p r' piece' t
    (subst (λ (l : List ℕ). After 64 over begin (bytes ++ input) (record { converter = x.converter; written = text ++ l }) x.have p)
    (sym (v.front ∙ front-is v.fed.put))
    (joins begin (record { converter = r.converter; written = text }) bytes r.have piece u input _ x.have p v.fed.after)) w)

module _ (file : List ℕ) (u : Run file) where
  abbrev read : List ℕ
  read = bytes_in u.reads

  abbrev now : So
  now = record { converter = u.reader.converter; written = u.text }

  so-far : After 64 over begin read now u.reader.have u.piece
  so-far = steps_on u.reads [] [] new_reader u.piece₀ u.reader u.piece u.text (after_none 64 pos over folds over_none begin u.piece₀) u.fed

  whole : (u.unread ≡ []) ⊎ (u.reader.converter.stopped ≡ true) → over begin (cut_of 64 file) ≡ over now (cut_of 64 (take u.reader.have u.piece))
  whole (inl none) =
      ap (λ (l : List ℕ). over begin (cut_of 64 l)) (u.all ∙ ap (read ++◌) none ∙ append-nil read)
      ∙ sym (at-end 64 pos over folds over_none begin read now u.reader.have u.piece so-far)
  whole (inr h) = ap (λ (l : List ℕ). over begin (cut_of 64 l)) u.all ∙ decided begin now read u.reader.have u.piece so-far h u.unread

  -- THE BYTES that are written
  pub writes : u.output ≡ converted file
  writes =
      u.written
      ∙ ap (u.text ++◌) (front-is u.last.put)
      ∙ sym (ap (λ (s : So). s.written) (whole u.enough))
      ∙ all-written file

  -- AND WHERE IT STOPPED
  pub stops : StoppedAt u.ended.converter (stopped_at file)
  stops = subst (λ (c : Converter). StoppedAt c (stopped_at file)) (ap (λ (s : So). s.converter) (whole u.enough) ∙ sym u.last.converter) (all-stopped file)

-- and there is a run on every file: as one that reads it in one go
module _ (file : List ℕ) where
  zeros : ℕ → List ℕ
  zeros n = replicate n 0

  putting : (text : List ℕ) → Put (zeros (length text)) 0 text (length text) (paste (zeros (length text)) 0 text (length text))
  unfolding zeros
  putting text =
      let l : length (zeros (length text)) ≡ length text = length-replicate {A = ℕ} (length text) 0 in
      record {
        next = omega arith;
        fits = omega (arith, l);
        bytes = refl;
        size = length-paste (zeros (length text)) 0 text (length text) (omega (arith, l)) (omega arith);
      }

  abbrev first : List ℕ
  first = texts_of new_converter (cut_of 64 (part_of 0 file))

  abbrev have : ℕ
  have = least_of (length (left_of 0 file)) (length (zeros 64) - 0)

  abbrev after : Reader
  after = record { converter = all_of new_converter (cut_of 64 (part_of 0 file)); have = have }

  abbrev kept : List ℕ
  kept = paste (zeros 64) 0 (take have (left_of 0 file)) have

  gone : Gone new_converter 0 (zeros 64) file 0 (zeros (length first)) after (length first) kept (paste (zeros (length first)) 0 first (length first))
  gone = record { converter = refl; put = putting first; have = refl; kept = refl }

  abbrev final : List ℕ
  final = texts_of after.converter (cut_of 64 (take have kept))

  one-step : Step new_reader (zeros 64) file after kept first
  unfolding zeros
  one-step = record {
    old = zeros (length first);
    new = paste (zeros (length first)) 0 first (length first);
    wrote = length first;
    fed = fed-fresh new_reader (zeros 64) file (zeros (length first)) (omega arith) (length-replicate {A = ℕ} 64 0) refl after (length first) kept (paste (zeros (length first)) 0 first (length first)) gone;
    front = sym (front-is (putting first));
  }

  pub runs : Run file
  runs = record {
    reads = file ∷ [];
    unread = [];
    all = sym (append-nil (file ++ []) ∙ append-nil file);
    piece₀ = zeros 64;
    reader = after;
    piece = kept;
    text = first ++ [];
    fed = (after, (kept, (first, ([], (one-step, ((refl, (refl, refl)), refl))))));
    enough = inl refl;
    old = zeros (length final);
    new = paste (zeros (length final)) 0 final (length final);
    wrote = length final;
    ended = record { converter = all_of after.converter (cut_of 64 (take have kept)); have = 0 };
    last = record { converter = refl; none = refl; put = putting final };
    output = (first ++ []) ++ take (length final) (paste (zeros (length final)) 0 final (length final));
    written = refl;
  }
