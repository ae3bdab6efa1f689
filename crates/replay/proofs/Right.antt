-- THE LINES ARE THE RULE'S: those of the frames that ended by the calls of the good records, for every trace, with frames that end by EOF.
use Rattle.std.specs.Prelude.{None}
use Prim.Native.Nat.{ℕ, zero, suc, ◌+◌, ◌≤◌, ◌<◌, ◌^◌}
use mathlib.Core.Path.{◌≡◌, refl, sym, ap, ◌∙◌}
use mathlib.Core.Bool.{Bool, true, false, cond, ◌||◌}
use mathlib.Core.List.{List, [], ◌∷◌, ◌++◌, map, append_assoc, append-nil}
use native.Mathlib.Omega.{arith}
use lib.ListN.{length, length-append, length-map}
use Rattle.rules.specs.Numbered.{or_else}
use Rattle.sizes.specs.declared.Opening.{Opening}
use Rattle.sizes.specs.Framing.{by_eof}
use Rattle.sizes.specs.Sizes.{sizes_broken}
use Rattle.session_rules.specs.Entry.{Entry}
use Rattle.session_rules.specs.declared.Session.{Session}
use Rattle.session_rules.specs.Session.{fresh}
use Rattle.session_rules.specs.Call.{Call, transfer, lost, handed, close}
use Rattle.session_rules.specs.Calls.{Offer, offer_with, refusal, next, after, call_of, unless, taken}
use Rattle.books.specs.Rule.{Event, idle, unreadable, missing, readable, mark, events, is_open, Seen, readables, runs, ahead, same, frame_of, data_of, first_stamp, nothing}
use Rattle.books.specs.Answer.{frame_entry}
use Rattle.books.specs.Offers.{list_of}
use Rattle.books.proofs.Answers.{taken_more}
use Rattle.books.proofs.Proved.{nothing-missing}
use Rattle.records.specs.declared.Form.{Form}
use Rattle.records.specs.Record.{kind_at, record_bad}
use Rattle.trace.specs.declared.State.{State}
use Rattle.trace.specs.declared.Said.{Said}
use Rattle.trace.specs.Record.{ask_by, record_ask, record_call}
use Rattle.trace.specs.Trace as trace
use Rattle.trace.specs.Inner.{is_decided}
use Rattle.trace.specs.Trace.{good_of, said_by, said_for, offer_of, room_for, read_by, offered}
use Rattle.trace.specs.Standing.{bad_after, past_after, good_after, good_records, offers_of}
use Rattle.trace.proofs.Standing.{offers-more, Holds, lent, refuses-lent, refuses, goes_on, holds-none, held-at-end}
use Rattle.endings.specs.declared.Ending.{Ending}
use Rattle.endings.specs.Inner.{list_in, told_by}
use Rattle.endings.specs.Endings.{ending_in, ending_from, endings_in, endings_of}
use Rattle.endings.proofs.Theorems.{ends-right}
use Rattle.frame_lines.specs.declared.Show.{Show}
use Rattle.frame_lines.specs.declared.Show.TheVariants.{Nothing, Replay, Frames}
use Rattle.frame_lines.specs.declared.Counted.{Counted}
use Rattle.frame_lines.specs.Inner.{lines_in, counted_all}
use Rattle.frame_lines.proofs.Branches.{lines_more, counted-more}
use Rattle.frame_lines.proofs.Words.{replay-lines, frame-lines, no_lines_lem}
use Rattle.replay.specs.Inner.{no_lines, replay_of, new_replay, tell_said, ended_of, step_of, text_of, over, out_of}
use Rattle.replay.specs.Lines.{shown, lines_of}
use Rattle.replay.proofs.Over.{decided-stays}

-- ---- no more frames end than there are calls
ending-one : (e : Entry) (n : ℕ) (s : _) → length (ending_in e n s) ≤ 1
ending-one (Entry.Delivered d) n s = omega arith
ending-one (Entry.Still d) n s = omega arith
ending-one (Entry.Dropped w k) n s = omega arith
ending-one (Entry.UnderWay k) n s = omega arith
ending-one (Entry.Stray k) n s = omega arith
ending-one (Entry.Unreadable k) n s = omega arith
ending-one (Entry.Headers k) n s = omega arith
ending-one Entry.Lost n s = omega arith
ending-one Entry.Idle n s = omega arith

endings-runs : (o : Opening) (b : Bool) (rs : List (List Seen)) → length (endings_in o b rs) ≤ length rs
endings-runs o b [] = omega arith
endings-runs o b (r ∷ rs) =
    let h = ending-one (frame_entry o b (nothing rs) r) (length (data_of (frame_of o r))) (first_stamp (frame_of o r)) in
    omega (arith, length-append (ending_from o b (nothing rs) r) (endings_in o b rs), h, endings-runs o b rs)

ahead-few : (t : Seen) (rs : List (List Seen)) → length (ahead t rs) ≤ suc (length rs)
ahead-few t [] = omega arith
ahead-few t ([] ∷ rs) = omega arith
ahead-few t ((u ∷ us) ∷ rs) = go (same t u)
  where
    go : (b : Bool) → length (cond b ((t ∷ u ∷ us) ∷ rs) ((t ∷ []) ∷ (u ∷ us) ∷ rs)) ≤ suc (suc (length rs))
    go true = omega arith
    go false = omega arith

runs-few : (ts : List Seen) → length (runs ts) ≤ length ts
runs-few [] = omega arith
runs-few (t ∷ ts) = omega (arith, ahead-few t (runs ts), runs-few ts)

readables-few : (es : List Event) (b : Bool) → length (readables b es) ≤ length es
readables-few [] b = omega arith
readables-few (idle ∷ es) b = omega (arith, readables-few es b)
readables-few (unreadable n ∷ es) b = omega (arith, readables-few es true)
readables-few (missing ∷ es) b = omega (arith, readables-few es true)
readables-few (readable h d ∷ es) b = omega (arith, readables-few es false)
readables-few (mark ∷ es) b = omega (arith, readables-few es b)

events-few : (o : Opening) (cs : List Call) → length (events o cs) ≤ length cs
events-few o [] = omega arith
events-few o (transfer t ∷ cs) = omega (arith, events-few o cs)
events-few o (lost ∷ cs) = omega (arith, events-few o cs)
events-few o (handed ∷ cs) = omega (arith, events-few o cs)
events-few o (close ∷ cs) = omega arith

pub endings-few : (o : Opening) (cs : List Call) → length (endings_of o cs) ≤ length cs
endings-few o cs =
    let a = endings-runs o (is_open cs) (runs (readables false (events o cs))) in
    let b = runs-few (readables false (events o cs)) in
    let c = readables-few (events o cs) false in
    omega (arith, a, b, c, events-few o cs)

-- ---- record by record
nothing-more : (xs ys : List Ending) → xs ≡ xs ++ ys → ys ≡ []
nothing-more xs [] e = refl
nothing-more xs (y ∷ ys) e = absurd (omega (arith, ap length e, length-append xs (y ∷ ys)))

module _ (f : Form) (w : Show) (o : Opening) (sizes : sizes_broken o ≡ false) (eof : by_eof o ≡ true) where
  abbrev ended : List (List ℕ) → List Ending
  ended rs = endings_of o (map (record_call f) rs)

  abbrev counted : List (List ℕ) → Counted
  counted rs = counted_all w no_lines (ended rs)

  abbrev lines : List (List ℕ) → List ℕ
  lines rs = lines_in w no_lines (ended rs)

  module _ (rs : List (List ℕ)) (s : Session) (h : Holds f o sizes eof rs s) (r : List ℕ) where
    abbrev x : Offer
    x = offer_with (room_for o) (record_ask f r)

    said-is : (b : Bool) → bad_after f rs r ≡ b → trace.said_of f s r ≡ said_by b s (record_ask f r)
    unfolding trace.said_of
    said-is b e = ap (λ (c : Bool). said_by c s (record_ask f r)) (ap (◌|| record_bad f r) h.closed₀ ∙ e)

    tells : (n : ℕ) → tell_said f s.rest r (said_for s (offer_with (room_for o) (ask_by f n r))) ≡ told_by s (offer_with (room_for o) (ask_by f n r))
    tells zero = refl
    tells (suc zero) = refl
    tells (suc (suc n)) = refl

    -- a bad record ends no frame
    ended-bad : bad_after f rs r ≡ true → ended_of f (good_of s) r ≡ []
    ended-bad e = ap (λ (y : Said). list_in (tell_said f s.rest r y)) (said-is true e)

    -- any other what its offer tells
    ended-good : bad_after f rs r ≡ false → ended_of f (good_of s) r ≡ list_in (told_by s x)
    ended-good e =
        ap (λ (y : Said). list_in (tell_said f s.rest r y)) (said-is false e ∙ ap (said_for s) (lent f o sizes eof rs s h (record_ask f r))) ∙ ap list_in (tells (kind_at r))

    abbrev xs : List Offer
    xs = offers_of f o rs

    listed : map (record_call f) rs ≡ list_of o xs
    listed = sym h.read.calls ∙ nothing-missing.list o xs

    -- what the list has more of with the offer
    grows : endings_of o (list_of o (xs ++ (x ∷ []))) ≡ ended rs ++ list_in (told_by s x)
    grows =
        ends-right o xs x
        ∙ ap (λ (cs : List Call). endings_of o cs ++ list_in (told_by (after (fresh o) xs) x)) (sym listed)
        ∙ ap (λ (z : Session). ended rs ++ list_in (told_by z x)) (sym h.read.session)

    -- a refused offer is no part of the list
    ended-past : (k : ℕ) → bad_after f rs r ≡ false → refusal s x ≡ suc k → ended_of f (good_of s) r ≡ []
    ended-past k e q = ended-good e ∙ nothing-more (ended rs) (list_in (told_by s x)) (ap (endings_of o) (listed ∙ sym unlisted) ∙ grows)
      where
        none : (j : ℕ) (c : Call) → j ≡ suc k → unless j c [] ≡ []
        none j c e = ap (λ (i : ℕ). unless i c []) e

        unlisted : list_of o (xs ++ (x ∷ [])) ≡ list_of o xs
        unlisted =
            sym (nothing-missing.list o (xs ++ (x ∷ []))) ∙ taken_more xs x (fresh o)
            ∙ ap (taken (fresh o) xs ++◌) (none (refusal (after (fresh o) xs) x) (call_of (after (fresh o) xs) x) (ap (λ (z : Session). refusal z x) (sym h.read.session) ∙ q))
            ∙ append-nil (taken (fresh o) xs) ∙ nothing-missing.list o xs

    -- a taken one is its last
    ended-more : (h' : Holds f o sizes eof (rs ++ (r ∷ [])) (next s (offer_of s (record_ask f r)))) → bad_after f rs r ≡ false → ended rs ++ ended_of f (good_of s) r ≡ ended (rs ++ (r ∷ []))
    ended-more h' e =
        ap (ended rs ++◌) (ended-good e) ∙ sym grows
        ∙ ap (λ (ys : List Offer). endings_of o (list_of o ys)) (sym (offers-more f o rs r)) ∙ ap (endings_of o) (sym (nothing-missing.list o (offers_of f o (rs ++ (r ∷ [])))) ∙ h'.read.calls)

  -- the step of the trace
  step-bad : (s : Session) (r : List ℕ) → (s.rest.closed || record_bad f r) ≡ true → (trace.step_of f (good_of s) r).state ≡ State.Bad (trace.number_of s)
  unfolding trace.step_of
  step-bad s r e = ap (λ (b : Bool). (read_by b s (record_ask f r)).state) e

  step_past : (s : Session) (r : List ℕ) (k : ℕ) → (s.rest.closed || record_bad f r) ≡ false → refusal s (offer_of s (record_ask f r)) ≡ suc k
      → (trace.step_of f (good_of s) r).state ≡ State.Refused (suc k) (trace.number_of s)
  unfolding trace.step_of
  step_past s r k e q = ap (λ (b : Bool). (read_by b s (record_ask f r)).state) e ∙ ap (λ (j : ℕ). (offered j s (next s (offer_of s (record_ask f r)))).state) q

  step-on : (s : Session) (r : List ℕ) → (s.rest.closed || record_bad f r) ≡ false → refusal s (offer_of s (record_ask f r)) ≡ 0 → trace.step_of f (good_of s) r ≡ good_of (next s (offer_of s (record_ask f r)))
  unfolding trace.step_of
  step-on s r e q = ap (λ (b : Bool). read_by b s (record_ask f r)) e ∙ ap (λ (j : ℕ). offered j s (next s (offer_of s (record_ask f r)))) q

  -- a record that decides and ends no frame
  decides : (s : Session) (c : Counted) (t : List ℕ) (r : List ℕ) (more : List (List ℕ)) → ended_of f (good_of s) r ≡ [] → is_decided (trace.step_of f (good_of s) r).state ≡ true
      → (over f w (out_of (replay_of (good_of s) c) t) (r ∷ more)).text ≡ t
  decides s c t r more e d =
      ap (λ (y : _). y.text) (decided-stays f w more (step_of f w (good_of s) c r) (t ++ text_of f w (good_of s) c r) d)
      ∙ ap (λ (es : List Ending). t ++ lines_in w c es) e ∙ append-nil t

  goes : (more rs : List (List ℕ)) (s : Session) → Holds f o sizes eof rs s → (over f w (out_of (replay_of (good_of s) (counted rs)) (lines rs)) more).text ≡ lines (rs ++ good_after f rs more)
  goes [] rs s h = ap lines (sym (append-nil rs))
  goes (r ∷ more) rs s h = go (bad_after f rs r) refl (past_after rs r) refl (goes more (rs ++ (r ∷ [])) (next s (offer_of s (record_ask f r))))
    where
      closed-or : (b : Bool) → bad_after f rs r ≡ b → (s.rest.closed || record_bad f r) ≡ b
      closed-or b e = ap (◌|| record_bad f r) h.closed₀ ∙ e

      by52 : (b : Bool) → bad_after f rs r ≡ false → past_after rs r ≡ b → refusal s (offer_of s (record_ask f r)) ≡ or_else b 52 0
      by52 b e g = refuses f o sizes eof rs s h r e ∙ ap (λ (c : Bool). or_else c 52 0) g

      go : (a : Bool) → bad_after f rs r ≡ a → (b : Bool) → past_after rs r ≡ b
          → (Holds f o sizes eof (rs ++ (r ∷ [])) (next s (offer_of s (record_ask f r)))
          → (over f w (out_of (replay_of (good_of (next s (offer_of s (record_ask f r)))) (counted (rs ++ (r ∷ [])))) (lines (rs ++ (r ∷ [])))) more).text ≡ lines ((rs ++ (r ∷ [])) ++ good_after f (rs ++ (r ∷ [])) more))
          → (over f w (out_of (replay_of (good_of s) (counted rs)) (lines rs)) (r ∷ more)).text ≡ lines (rs ++ cond a [] (cond b [] (r ∷ good_after f (rs ++ (r ∷ [])) more)))
      go true e b g rec = decides s (counted rs) (lines rs) r more (ended-bad rs s h r e) (ap is_decided (step-bad s r (closed-or true e))) ∙ ap lines (sym (append-nil rs))
      go false e true g rec =
          decides s (counted rs) (lines rs) r more (ended-past rs s h r 51 e (refuses-lent f o sizes eof rs s h r e ∙ ap (λ (c : Bool). or_else c 52 0) g)) (ap is_decided (step_past s r 51 (closed-or false e) (by52 true e g)))
          ∙ ap lines (sym (append-nil rs))
      go false e false g rec =
          let h' = goes_on f o sizes eof rs s h r e g in
          let q = ended-more rs s h r h' e in
          (λ i. (over f w (out_of (replay_of (step-on s r (closed-or false e) (by52 false e g) i) ((sym (counted-more w no_lines (ended rs) (ended_of f (good_of s) r)) ∙ ap (counted_all w no_lines) q) i))
          ((sym (lines_more w no_lines (ended rs) (ended_of f (good_of s) r)) ∙ ap (lines_in w no_lines) q) i)) more).text)
          ∙ rec h' ∙ ap lines (append_assoc rs (r ∷ []) (good_after f (rs ++ (r ∷ [])) more))

  -- ---- in words
  few : (rs : List (List ℕ)) → 1 + length (ended (good_records f rs)) < 2 ^ 64
  few rs =
      let h = held-at-end f o sizes eof rs in
      omega (arith, endings-few o (map (record_call f) (good_records f rs)), length-map (good_records f rs) (record_call f), h.number, h.taken₀, h.few, closing h.closed₀)
    where
      closing : {a b : Bool} → a ≡ b → trace.closes a ≤ 2
      closing {a} {b} e = two a
        where
          two : (c : Bool) → trace.closes c ≤ 2
          two true = omega arith
          two false = omega arith

  words : (v : Show) (es : List Ending) → 1 + length es < 2 ^ 64 → lines_in v no_lines es ≡ shown v es
  words Nothing es h = no_lines_lem es no_lines
  words Replay es h = replay-lines es 1 None h
  words Frames es h = frame-lines es 1 None h

  -- THE LINES of a trace
  pub lines-right : (rs : List (List ℕ)) → (over f w (out_of (new_replay o) []) rs).text ≡ lines_of w o (map (record_call f) (good_records f rs))
  lines-right rs = goes rs [] (fresh o) (holds-none f o sizes eof) ∙ words w (ended (good_records f rs)) (few rs)
