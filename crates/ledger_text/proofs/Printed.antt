-- EVERY RUN prints of a file what its bytes alone say, however they come: the lines and the report are the rule's.
use Prim.Native.Nat.{ℕ, ◌+◌, ◌<◌}
use mathlib.Core.Path.{◌≡◌, refl, sym, ap, subst, ◌∙◌}
use mathlib.Core.Bool.{Bool, true, false, ◌||◌}
use mathlib.Core.List.{List, [], ◌∷◌, ◌++◌, map, append_assoc, append-nil}
use mathlib.Core.Logic.{◌⊎◌, inl, inr}
use native.Mathlib.Omega.{arith}
use lib.ListN.{length, take, drop, replicate, length-replicate, length-drop}
use Rattle.rules.proofs.Lists.{no-elements}
use lib.Seq.{take-length, take-paste, take_all, drop-length}
use Rattle.sizes.specs.declared.Opening.{Opening}
use Rattle.sizes.specs.Framing.{by_eof}
use Rattle.sizes.specs.Sizes.{sizes_broken}
use Rattle.cuts.specs.Cuts.{cut_of, After}
use Rattle.cuts.proofs.Goes.{after_none, after_more, at-end, at_rest}
use Rattle.cuts.proofs.Feed.{feed-rest}
use Rattle.cuts.proofs.Cut.{cut-first}
use Rattle.records.specs.declared.Form.{Form}
use Rattle.records.specs.Form.{size_of}
use Rattle.records.specs.Record.{record_bad, records_of}
use Rattle.records.proofs.Branches.{bad-size}
use Rattle.trace.specs.declared.State.{State}
use Rattle.trace.specs.declared.State.TheVariants.{Good, Bad, Refused}
use Rattle.trace.specs.declared.Trace.{Trace}
use Rattle.trace.specs.declared.Printed.{Printed}
use Rattle.trace.specs.Record.{record_ask, record_call}
use Rattle.trace.specs.Trace.{new_trace, said_by, said_of, traced, report_of}
use Rattle.trace.specs.Inner.{is_decided}
use Rattle.trace.specs.Standing.{state_of, good_records, printed_by}
use Rattle.trace.proofs.Exactly.{print-right}
use Rattle.frame_lines.specs.declared.Show.{Show}
use Rattle.replay.specs.declared.Replay.{Replay}
use Rattle.replay.specs.declared.Reader.{Reader}
use Rattle.replay.specs.Lines.{lines_of}
use Rattle.endings.specs.Inner.{list_in}
use Rattle.frame_lines.specs.Inner.{lines_in}
use Rattle.replay.specs.Inner.{new_replay, tell_said, ended_by, ended_of, Out, over, out_of}
use Rattle.replay.proofs.Over.{records-cut, folds, over-text, over-trace, decided-stays}
use Rattle.replay.proofs.Records.{positive}
use Rattle.replay.proofs.Read.{none}
use Rattle.replay.proofs.Right.{lines-right}
use Rattle.text.specs.Put.{Put}
use Rattle.text.specs.Written.{answer_of, buffer_of}
use Rattle.text.proofs.Whole.{front_of}
use Rattle.ledger_text.specs.Report.{room, end_text}
use Rattle.ledger_text.specs.Print.{print_of, bytes_in, Feeds, Run, written}

-- what was put at the front is what is written of it
put_front : (old : List ℕ) (t : List ℕ) (r : ℕ) (new : List ℕ) → Put old 0 t r new → take r new ≡ t
put_front old t r new p =
    (λ i. take (p.next i) (p.bytes i)) ∙ take-paste old 0 t (length t) (omega arith) (omega arith) ∙ take-length t

module _ (w : Show) (f : Form) (o : Opening) where
  abbrev n : ℕ
  n = size_of f

  abbrev start : Out
  start = out_of (new_replay o) []

  -- lines that stand before
  ahead : (p q : Replay) (t u bytes : List ℕ) (have : ℕ) (piece : List ℕ) → After n (over f w) (out_of p []) bytes (out_of q u) have piece → After n (over f w) (out_of p t) bytes (out_of q (t ++ u)) have piece
  ahead p q t u bytes have piece a = record {
    many = a.many;
    whole = a.whole;
    left = a.left;
    all = a.all;
    full = a.full;
    short = a.short;
    read = (λ i. out_of (a.read i).replay (t ++ (a.read i).text)) ∙ sym (over-text f w (cut_of n a.whole) p t);
    have₀ = a.have₀;
    kept = a.kept;
  }

  -- what was read before, and the reads after it
  fed-on : (inputs : List (List ℕ)) (bytes : List ℕ) (r : Reader) (t piece text : List ℕ) (r' : Reader) (piece' : List ℕ)
      → After n (over f w) start bytes (out_of r.replay t) r.have piece → Feeds f w inputs r piece text r' piece'
      → After n (over f w) start (bytes ++ bytes_in inputs) (out_of r'.replay (t ++ text)) r'.have piece'
  fed-on [] bytes r t piece text r' piece' a (e, g, z) = rw (append-nil bytes, z, append-nil t, sym e, sym g) a
  fed-on (input ∷ inputs) bytes r t piece text r' piece' a (x, p, old, new, more, v, z, u) =
      let q : take x.wrote new ≡ v.text = put_front old v.text x.wrote new v.put in
      let b = after_more n (positive f) (over f w) (folds f w) (none f w) start bytes (out_of r.replay t) r.have piece a input (out_of x.reader.replay (t ++ v.text)) x.reader.have p
      (ahead r.replay x.reader.replay t v.text (take r.have piece ++ input) x.reader.have p v.after) in
      subst (λ (l : List ℕ). After n (over f w) start (bytes ++ (input ++ bytes_in inputs)) (out_of r'.replay l) r'.have piece')
      (append_assoc t v.text more ∙ ap (λ (l : List ℕ). t ++ (l ++ more)) (sym q) ∙ ap (t ++◌) (sym z))
      (subst (λ (l : List ℕ). After n (over f w) start l (out_of r'.replay ((t ++ v.text) ++ more)) r'.have piece') (append_assoc bytes input (bytes_in inputs))
      (fed-on inputs (bytes ++ input) x.reader (t ++ v.text) p more r' piece' b u))

  module _ (sizes : sizes_broken o ≡ false) (eof : by_eof o ≡ true) (file : List ℕ) (u : Run w f o file) where
    so-far : After n (over f w) start (bytes_in u.reads) (out_of u.reader.replay u.lines) u.reader.have u.piece
    so-far =
        fed-on u.reads [] (record { replay = new_replay o; have = 0 }) [] u.piece₀ u.lines u.reader u.piece
        (after_none n (positive f) (over f w) (folds f w) (none f w) start u.piece₀) u.fed

    abbrev lasts : List ℕ
    lasts = u.last.text

    -- the end of the lines is that of the whole file
    whole : (u.unread ≡ []) ⊎ (is_decided u.reader.replay.trace.state ≡ true) → out_of u.lined.replay (u.lines ++ lasts) ≡ over f w start (cut_of n file)
    whole (inl e) =
        (λ i. out_of (u.last.leads i).replay (u.lines ++ (u.last.leads i).text))
        ∙ sym (over-text f w (cut_of n (take u.reader.have u.piece)) u.reader.replay u.lines)
        ∙ at-end n (positive f) (over f w) (folds f w) (none f w) start (bytes_in u.reads) (out_of u.reader.replay u.lines) u.reader.have u.piece so-far
        ∙ ap (λ (l : List ℕ). over f w start (cut_of n l)) (sym (u.all ∙ ap (bytes_in u.reads ++◌) e ∙ append-nil (bytes_in u.reads)))
    whole (inr d) =
        (λ i. out_of (u.last.leads i).replay (u.lines ++ (u.last.leads i).text))
        ∙ (λ i. out_of (decided-stays f w (cut_of n (take u.reader.have u.piece)) u.reader.replay [] d i).replay (u.lines ++ (decided-stays f w (cut_of n (take u.reader.have u.piece)) u.reader.replay [] d i).text))
        ∙ ap (out_of u.reader.replay) (append-nil u.lines)
        ∙ sym (at_rest n (positive f) (over f w) (folds f w) (none f w) start (bytes_in u.reads) (out_of u.reader.replay u.lines) u.reader.have u.piece so-far u.unread
        (λ rs. decided-stays f w rs u.reader.replay u.lines d))
        ∙ ap (λ (l : List ℕ). over f w start (cut_of n l)) (sym u.all)

    abbrev rs : List (List ℕ)
    rs = records_of f file

    all_of : out_of u.lined.replay (u.lines ++ lasts) ≡ over f w start rs
    all_of = whole u.enough ∙ ap (over f w start) (sym (records-cut f file))

    the-lines : u.lines ++ lasts ≡ lines_of w o (map (record_call f) (good_records f rs))
    the-lines = ap (λ (x : Out). x.text) all_of ∙ lines-right f w o sizes eof rs

    the-report : u.printed ≡ report_of (traced f (new_trace o) rs)
    the-report = u.finish ∙ ap report_of (ap (λ (x : Out). x.replay.trace) all_of ∙ over-trace f w rs start)

    the_end : take u.count u.buffer ≡ end_text w (state_of f rs) (printed_by f o (state_of f rs) rs)
    the_end =
        let r = print-right f o sizes eof rs in
        (front_of room (end_text w u.printed.state u.printed.ledger.numbers) u.buffer₀ u.count u.buffer u.roomy u.answer u.text).text
        ∙ ap (λ (p : Printed). end_text w p.state p.ledger.numbers) the-report
        ∙ ap (λ (s : State). end_text w s (report_of (traced f (new_trace o) rs)).ledger.numbers) r.0
        ∙ ap (end_text w (state_of f rs)) r.1

    -- THE BYTES that are printed
    pub prints : written u ≡ print_of w f o file
    prints =
        ap (λ (l : List ℕ). u.lines ++ (l ++ take u.count u.buffer)) (put_front u.lined₀ lasts u.lined.at u.lined₁ u.last.put)
        ∙ sym (append_assoc u.lines lasts (take u.count u.buffer))
        ∙ (λ i. the-lines i ++ the_end i)

  -- ---- a partial record has no lines
  silent : (t : Trace) (r : List ℕ) → record_bad f r ≡ true → ended_of f t r ≡ []
  unfolding said_of
  silent t r e = go t.state
    where
      or-true : (a b : Bool) → b ≡ true → (a || b) ≡ true
      or-true true b e = refl
      or-true false b e = e

      go : (z : State) → list_in (ended_by z f t.session r) ≡ []
      go Good = ap (λ (c : Bool). list_in (tell_said f t.session.rest r (said_by c t.session (record_ask f r)))) (or-true t.session.rest.closed (record_bad f r) e)
      go (Bad k) = refl
      go (Refused j k) = refl

  partial : (p : Replay) (l : List ℕ) → length l < n → (over f w (out_of p []) (cut_of n l)).text ≡ []
  unfolding cut_of
  partial p [] h = refl
  partial p (b ∷ bs) h =
      let l : List ℕ = b ∷ bs in
      let e : cut_of n l ≡ l ∷ [] =
      cut-first n (positive f) l (omega arith) ∙ (λ i. take_all n l (omega arith) i ∷ cut_of n (no-elements (drop n l) (omega (arith, length-drop n l)) i)) in
      ap (λ (rs : List (List ℕ)). (over f w (out_of p []) rs).text) e ∙ ap (lines_in w p.counted) (silent p.trace l (sym (bad-size f l n refl (λ q. omega (arith, q)))))

  -- and there is a run on every file: one that reads it in one go
  put_all : (t : List ℕ) → Put t 0 t (length t) t
  put_all t = record { next = omega arith; fits = omega arith; bytes = sym (append-nil (take (length t) t) ∙ take-length t) ∙ ap (λ (l : List ℕ). take (length t) t ++ l) (sym (drop-length t) ∙ ap (λ (k : ℕ). drop k t) same); size = refl }
    where
      same : length t ≡ 0 + length t
      same = omega arith

  run-from : (file : List ℕ) (x : Out) (have : ℕ) (p : List ℕ) → After n (over f w) start file x have p → Run w f o file
  run-from file x have p a =
      let y : Out = over f w (out_of x.replay []) (cut_of n (take have p)) in
      let z : Printed = report_of y.replay.trace in
      let t : List ℕ = end_text w z.state z.ledger.numbers in
      let b : List ℕ = replicate room 0 in
      record {
        reads = file ∷ [];
        unread = [];
        all = sym (append-nil (file ++ []) ∙ append-nil file);
        piece₀ = [];
        reader = record { replay = x.replay; have = have };
        piece = p;
        lines = take (length x.text) x.text ++ [];
        fed = (record { reader = record { replay = x.replay; have = have }; wrote = length x.text }, p, x.text, x.text, [], record { text = x.text; after = a; put = put_all x.text }, refl, (refl, refl, refl));
        enough = inl refl;
        lined = record { replay = y.replay; at = length y.text };
        lined₀ = y.text;
        lined₁ = y.text;
        last = record {
          text = y.text;
          leads = refl;
          put = put_all y.text;
          most = omega (arith, ap length (partial x.replay (take have p) (omega (arith, ap length a.kept, a.short))));
        };
        printed = z;
        finish = refl;
        buffer₀ = b;
        roomy = omega (arith, length-replicate {0} {A = ℕ} room 0);
        count = answer_of room t b;
        buffer = buffer_of room t b;
        answer = refl;
        text = refl;
      }

  pub runs : (file : List ℕ) → Run w f o file
  runs file =
      let piece : List ℕ = replicate n 0 in
      run-from file _ _ _
      (feed-rest n (positive f) (over f w) (folds f w) (none f w) start [] file start piece 0 (omega arith) (after_none n (positive f) (over f w) (folds f w) (none f w) start piece) (length-replicate {0} {A = ℕ} n 0))
