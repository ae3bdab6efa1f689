-- What each branch of the code says of the definitions.
use Rattle.std.proofs.Common.{◌≡◌, ℕ, ◌+◌, ◌-◌, ◌*◌, ◌<◌, ◌≤◌, Bool, true, false, ◌||◌, eqb, List, [], ◌∷◌, ◌++◌, length, take, drop, min, replicate, sym, refl, ap, ◌∙◌, subst, append_assoc, append-nil, arith, length-append, length-drop, length-take-le}
use lib.ListN.{length-replicate}
use lib.Seq.{paste-zero}
use Rattle.rules.proofs.Lists.{no-elements}
use Rattle.text.specs.Put.{Put}
use Rattle.text.proofs.Puts.{then}
use Rattle.records.specs.declared.Form.TheVariants.{Short}
use Rattle.records.specs.Record.{kind_at, length_at, bytes_at, record_bad}
use Rattle.records.proofs.Fine.{fine}
use Rattle.long_records.specs.Long.{long_of, data_most, long_size}
use Rattle.cuts.specs.Cuts.{cut_of}
use Rattle.cuts.proofs.Walk.{chunk-first}
use Rattle.convert.specs.declared.Converter.{Converter}
use Rattle.convert.specs.Convert.{long_for}
use Rattle.convert.specs.Inner.{next_number, stop_of, on_of, one_of, text_of, all_of, texts_of}

-- ---- a good record
module _ (r : List ℕ) (g : record_bad Short r ≡ false) where
  pub has-kind : 0 < length r
  has-kind = omega (arith, (fine Short r g).size)

  pub has-head : 4 ≤ length r
  has-head = omega (arith, (fine Short r g).size)

  module _ (n : ℕ) (e : n ≡ length_at Short r) where
    pub data-ends : 2 + n ≤ length r
    data-ends = omega (arith, (fine Short r g).size, (fine Short r g).short, e)

    pub data-fits : length (take (2 + n - 2) (drop 2 r)) ≤ data_most
    data-fits = omega (arith, (fine Short r g).short, e, length-take-le (2 + n - 2) (drop 2 r) (omega (arith, data-ends, length-drop 2 r)))

    same : 2 + n - 2 ≡ length_at Short r
    same = omega (arith, e)

    pub long-put : (old new : List ℕ) (at m : ℕ) → Put old at (long_of (kind_at r) (take (2 + n - 2) (drop 2 r))) m new → Put old at (long_for r) m new
    long-put old new at m p = subst (λ (k : ℕ). Put old at (long_of (kind_at r) (take k (drop 2 r))) m new) same p

  pub data-length : length (bytes_at Short r) ≡ length_at Short r
  data-length = length-take-le (length_at Short r) (drop 2 r) (omega (arith, (fine Short r g).size, (fine Short r g).short, length-drop 2 r))

  pub long-length : length (long_for r) ≡ long_size
  long-length =
      omega (
        arith,
        data-length,
        (fine Short r g).short,
        length-append (bytes_at Short r) (replicate (data_most - length (bytes_at Short r)) 0),
        length-replicate {A = ℕ} (data_most - length (bytes_at Short r)) 0,
      )

-- nothing is put
pub put-none : (old : List ℕ) (at : ℕ) → at ≤ length old → Put old at [] at old
put-none old at h = record { next = omega arith; fits = h; bytes = paste-zero old at []; size = refl }

-- ---- one record, by what comes of it
pub on-is : (c : Converter) (r : List ℕ) (n : ℕ) → n ≡ next_number c.number → ◌≡◌ {A = Converter} (record { closed = eqb (kind_at r) 2; stopped = false; number = n }) (on_of c r)
on-is c r n e = rw e

abbrev pub One : Converter → List ℕ → List ℕ → ℕ → Converter → ℕ → List ℕ → Type 0
One c r old at c' m new = ((c' ≡ one_of c r) × Put old at (text_of c r) m new) × (m ≤ at + 49 * length r)

module _ (c : Converter) (r old : List ℕ) (at : ℕ) (some : 0 < length r) (room : at + 49 * length r ≤ length old) where
  pub one-stopped : c.stopped ≡ true → One c r old at c at old
  one-stopped e = ((rw e, rw e (put-none old at (omega arith))), omega arith)

  module _ (go : c.stopped ≡ false) (c' : Converter) (m : ℕ) (new : List ℕ) where
    stops : (c.closed || record_bad Short r) ≡ true → (c' ≡ stop_of c) × Put old at (255 ∷ []) m new → One c r old at c' m new
    stops e (a, p) = ((rw (go, e) a, rw (go, e) p), omega (arith, p.next))

    pub one-after : c.closed ≡ true → (c' ≡ stop_of c) × Put old at (255 ∷ []) m new → One c r old at c' m new
    one-after e = stops (rw e)

    module _ (x : Bool) (b : x ≡ record_bad Short r) where
      pub one-bad : c.closed ≡ false → x ≡ true → (c' ≡ stop_of c) × Put old at (255 ∷ []) m new → One c r old at c' m new
      one-bad d e = stops (rw d (sym b ∙ e))

      pub one-good : c.closed ≡ false → x ≡ false → (c' ≡ on_of c r) × Put old at (long_for r) m new → One c r old at c' m new
      one-good d e (a, p) =
          let g : record_bad Short r ≡ false = sym b ∙ e in
          ((rw (go, d, g) a, rw (go, d, g) p), omega (arith, p.next, long-length r g, (fine Short r g).size))

pub good-room : (r : List ℕ) (at k : ℕ) → at + 49 * length r ≤ k → (x : Bool) → x ≡ record_bad Short r → x ≡ false → (record_bad Short r ≡ false) × (at + long_size ≤ k)
good-room r at k room x b e = let g : record_bad Short r ≡ false = sym b ∙ e in (g, omega (arith, (fine Short r g).size))

-- ---- record after record: `rest` is what is left of the bytes
pub record Ran (c : Converter) (part old : List ℕ) (start : ℕ) (new : List ℕ) (c' : Converter) (at : ℕ) (rest : List ℕ) : Type 0 where
  pub text : List ℕ
  pub put : Put old start text at new
  pub few : at + 49 * length rest ≤ start + 49 * length part
  pub all : all_of c (cut_of 64 part) ≡ all_of c' (cut_of 64 rest)
  pub texts : texts_of c (cut_of 64 part) ≡ text ++ texts_of c' (cut_of 64 rest)

module _ (c : Converter) (part old : List ℕ) (start : ℕ) where
  pub run-begins : (rest : List ℕ) → rest ≡ part → start + 49 * length part ≤ length old → Ran c part old start old c start rest
  run-begins rest e room = record {
    text = [];
    put = put-none old start (omega arith);
    few = omega (arith, ap length e);
    all = ap (λ (l : List ℕ). all_of c (cut_of 64 l)) (sym e);
    texts = ap (λ (l : List ℕ). texts_of c (cut_of 64 l)) (sym e);
  }

  module _ (new : List ℕ) (c' : Converter) (at : ℕ) (rest : List ℕ) (u : Ran c part old start new c' at rest) where
    pub run_ends : length rest ≡ 0 → ((c' ≡ all_of c (cut_of 64 part)) × Put old start (texts_of c (cut_of 64 part)) at new) × (at ≤ start + 49 * length part)
    unfolding cut_of
    run_ends h =
        let none : rest ≡ [] = no-elements rest h in (
          (
            sym (u.all ∙ ap (λ (l : List ℕ). all_of c' (cut_of 64 l)) none),
            subst (λ (t : List ℕ). Put old start t at new)
                (sym (u.texts ∙ ap (λ (l : List ℕ). u.text ++ texts_of c' (cut_of 64 l)) none ∙ append-nil u.text)) u.put,
          ),
          omega (arith, u.few),
        )

    module _ (r more : List ℕ) (e : rest ≡ r ++ more) (size : length r ≡ min 64 (length rest)) (some : 0 < length rest) where
      both : length rest ≡ length r + length more
      both = ap length e ∙ length-append r more

      cut : cut_of 64 rest ≡ r ∷ cut_of 64 more
      cut = chunk-first 64 rest r more (omega arith) e size some

      pub run_room : (room : start + 49 * length part ≤ length old) → (0 < length r) × (at + 49 * length r ≤ length new)
      run_room room = (omega (arith, size, some), omega (arith, both, u.few, u.put.size))

      pub run_on : (d : Converter) (m : ℕ) (next : List ℕ) → One c' r new at d m next → Ran c part old start next d m more
      run_on d m next o = record {
        text = u.text ++ text_of c' r;
        put = then u.put o.0.1;
        few = omega (arith, o.1, both, u.few);
        all = u.all ∙ ap (all_of c') cut ∙ ap (λ (x : Converter). all_of x (cut_of 64 more)) (sym o.0.0);
        texts =
            u.texts ∙ ap (λ (l : List (List ℕ)). u.text ++ texts_of c' l) cut
            ∙ ap (λ (x : Converter). u.text ++ (text_of c' r ++ texts_of x (cut_of 64 more))) (sym o.0.0)
            ∙ sym (append_assoc u.text (text_of c' r) (texts_of d (cut_of 64 more)));
      }
