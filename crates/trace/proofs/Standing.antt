-- How a trace stands, which of its records are good and what its session is, is what its records alone say.
use Rattle.std.specs.Prelude.{Ok}
use Prim.Native.Nat.{ℕ, zero, suc, ◌+◌, ◌≤◌}
use mathlib.Core.Path.{◌≡◌, refl, sym, ◌∙◌, ap}
use mathlib.Core.Bool.{Bool, true, false, cond, ◌||◌}
use mathlib.Core.List.{List, [], ◌∷◌, ◌++◌, map, append_assoc, append-nil}
use native.Mathlib.Omega.{arith}
use lib.ListN.{length, length-append, length-take, length-replicate}
use lib.Dec.{ltb, eqb}
use borrow.Author.Tests.{le-ltb, lt-ltb, ltb-false, eq-eqb, eqb-true, eqb-false}
use Rattle.rules.specs.Numbered.{or_else}
use Rattle.rules.proofs.Rows.{or-first, or-second}
use Rattle.session_rules.specs.declared.Reading.{Reading}
use Rattle.session_rules.specs.declared.Reading.TheVariants.{Idle, Unreadable, Readable}
use Rattle.session_rules.specs.Transfer.{reading_of}
use Rattle.sizes.specs.declared.Opening.{Opening}
use Rattle.sizes.specs.Framing.{by_eof}
use Rattle.sizes.specs.Sizes.{sizes_broken}
use Rattle.session_rules.specs.declared.Session.{Session}
use Rattle.session_rules.specs.Refusals.{taken_most}
use Rattle.session_rules.specs.Refusals.{record_broken}
use Rattle.session_rules.specs.declared.Outcome.{Outcome}
use Rattle.session_rules.specs.Session.{fresh, read_of, took_by, took_of, take_of, close_of}
use Rattle.session_rules.specs.Call.{Ask, Call, heard_of}
use Rattle.session_rules.specs.Calls.{Offer, refusal, next, next_call, after, taken, call_of, unless, offer_with}
use Rattle.books.proofs.Answers.{taken_more}
use Rattle.books.proofs.HandedOut.{asked-listed, asked-next}
use Rattle.books.proofs.Sound.{took-taken, after-opening}
use Rattle.books.specs.Answer.{last_run, ending_of, answer_of, hands_for, out_of, outcome_of}
use Rattle.books.proofs.Histories.{sound-taken}
use Rattle.books.proofs.ByList.{transfer-answers, close-answers}
use Rattle.records.specs.declared.Form.{Form}
use Rattle.records.specs.Record.{kind_at, bytes_at, record_bad}
use Rattle.records.proofs.Fine.{fine}
use Rattle.records.proofs.Branches.{most-few}
use Rattle.trace.specs.Record.{ask_by, record_ask, record_call}
use Rattle.trace.specs.Trace.{new_trace, number_of, room_for, offer_of, said_for, said_by, said_of, traced, good_of}
use Rattle.trace.specs.Standing.{closed_in, count_in, bad_after, past_after, state_after, state_of, good_after, good_records, offers_of, Read, says_to}
use Rattle.trace.specs.declared.Said.{Said}
use Rattle.trace.specs.declared.State.{State}
use Rattle.trace.specs.declared.State.TheVariants.{Bad, Refused}
use Rattle.trace.specs.declared.Trace.{Trace}
use Rattle.trace.proofs.Records.{on-good, on-bad, on-refused}

abbrev pub and : List (List ℕ) → List ℕ → List (List ℕ)
and rs r = rs ++ (r ∷ [])

-- ---- one record more
count-more : (rs : List (List ℕ)) (r : List ℕ) → count_in (and rs r) ≡ count_in rs + cond (ltb (kind_at r) 2) 1 0
count-more [] r = omega arith
count-more (q ∷ rs) r = omega (arith, count-more rs r)

or-false : (b : Bool) → (b || false) ≡ b
or-false true = refl
or-false false = refl

closed-more : (rs : List (List ℕ)) (r : List ℕ) → closed_in rs ≡ false → closed_in (and rs r) ≡ eqb (kind_at r) 2
closed-more [] r e = or-false (eqb (kind_at r) 2)
closed-more (q ∷ rs) r e = rw (or-first (eqb (kind_at q) 2) (closed_in rs) e) (closed-more rs r (or-second (eqb (kind_at q) 2) (closed_in rs) e))

-- ---- a good record's transfer is short
short : (f : Form) (r : List ℕ) → record_bad f r ≡ false → length (bytes_at f r) ≤ 65536
short f r e = simp length-take (omega (arith, (fine f r e).short, most-few f))

-- ---- the call of a record of kind n, of an open session
one_more : (n : ℕ) → n ≤ taken_most → eqb n taken_most ≡ ltb taken_most (n + 1)
one_more n e = go (eqb n taken_most) refl
  where
    go : (b : Bool) → eqb n taken_most ≡ b → b ≡ ltb taken_most (n + 1)
    go true q = sym (lt-ltb taken_most (n + 1) (omega (arith, eqb-true n taken_most q)))
    go false q = sym (le-ltb taken_most (n + 1) (below (eqb-false n taken_most q)))
      where
        below : (n ≡ taken_most → ⊥) → n + 1 ≤ taken_most
        below u = omega arith

took-closed : (s : Session) (t : List ℕ) (r : Reading) → (took_by r s t).session.rest.closed ≡ s.rest.closed
unfolding read_of
took-closed s t Idle = refl
took-closed s t (Unreadable k) = refl
took-closed s t (Readable h) = refl

module _ (f : Form) (s : Session) (b r : List ℕ) (open₀ : s.rest.closed ≡ false) where
  call-refusal : (n : ℕ) → record_broken s ≡ false → s.rest.opening.frame ≤ length b → length (bytes_at f r) ≤ 65536 → s.rest.taken ≤ taken_most
      → refusal s (offer_with b (ask_by f n r)) ≡ or_else (ltb taken_most (s.rest.taken + cond (ltb n 2) 1 0)) 52 0
  call-refusal zero a m l k = rw (a, open₀, le-ltb (length b) s.rest.opening.frame m, le-ltb 65536 (length (bytes_at f r)) l) (ap (λ (c : Bool). or_else c 52 0) (one_more s.rest.taken k))
  call-refusal (suc zero) a m l k = rw (a, open₀) (ap (λ (c : Bool). or_else c 52 0) (one_more s.rest.taken k))
  call-refusal (suc (suc n)) a m l k = rw (a, open₀, le-ltb (suc (suc n)) 2 (omega arith), le-ltb taken_most (s.rest.taken + 0) (omega arith))

  call-closed : (n : ℕ) → n ≤ 2 → (next_call s (heard_of (ask_by f n r))).rest.closed ≡ eqb n 2
  unfolding took_of
  call-closed zero e = took-closed s (bytes_at f r) (reading_of s.rest.opening (bytes_at f r)) ∙ open₀
  call-closed (suc zero) e = open₀
  call-closed (suc (suc n)) e = sym (eq-eqb (suc (suc n)) 2 (omega arith))

  call-taken : (n : ℕ) → (next_call s (heard_of (ask_by f n r))).rest.taken ≡ s.rest.taken + cond (ltb n 2) 1 0
  unfolding took_of
  call-taken zero = took-taken s (bytes_at f r) (reading_of s.rest.opening (bytes_at f r))
  call-taken (suc zero) = refl
  call-taken (suc (suc n)) = rw (le-ltb (suc (suc n)) 2 (omega arith)) (omega arith)

  call-number : (c : Ask) → number_of (next_call s (heard_of c)) ≡ number_of s + 1
  unfolding took_of
  call-number (Ask.transfer t) = rw (took-taken s t (reading_of s.rest.opening t), took-closed s t (reading_of s.rest.opening t), open₀) (omega arith)
  call-number Ask.lost = rw open₀ (omega arith)
  call-number Ask.close = rw open₀ (omega arith)

-- ---- along a trace
module _ (f : Form) (o : Opening) where
  after_more : (xs : List Offer) (x : Offer) (s : Session) → after s (xs ++ (x ∷ [])) ≡ next (after s xs) x
  after_more [] x s = refl
  after_more (y ∷ xs) x s = after_more xs x (next s y)

  pub offers-more : (rs : List (List ℕ)) (r : List ℕ) → offers_of f o (and rs r) ≡ offers_of f o rs ++ (offer_with (room_for o) (record_ask f r) ∷ [])
  offers-more [] r = refl
  offers-more (q ∷ rs) r = ap (offer_with (room_for o) (record_ask f q) ∷◌) (offers-more rs r)

  calls-more : (rs : List (List ℕ)) (r : List ℕ) → map (record_call f) (and rs r) ≡ map (record_call f) rs ++ (record_call f r ∷ [])
  calls-more [] r = refl
  calls-more (q ∷ rs) r = ap (record_call f q ∷◌) (calls-more rs r)

  -- one record more whose call is taken
  read_more : (rs : List (List ℕ)) (s : Session) (r : List ℕ) → Read f o rs s → by_eof s.rest.opening ≡ true → refusal s (offer_with (room_for o) (record_ask f r)) ≡ 0
      → Read f o (and rs r) (next s (offer_with (room_for o) (record_ask f r)))
  read_more rs s r w d ok =
      let x : Offer = offer_with (room_for o) (record_ask f r) in
      record {
        session = ap (λ (z : Session). next z x) w.session ∙ sym (after_more (offers_of f o rs) x (fresh o)) ∙ ap (after (fresh o)) (sym (offers-more rs r));
        calls = ap (taken (fresh o)) (offers-more rs r)
            ∙ taken_more (offers_of f o rs) x (fresh o)
            ∙ ap (λ (z : Session). taken (fresh o) (offers_of f o rs) ++ unless (refusal z x) (call_of z x) []) (sym w.session)
            ∙ ap (λ (k : ℕ). taken (fresh o) (offers_of f o rs) ++ unless k (call_of s x) []) ok
            ∙ ap (λ (c : Call). taken (fresh o) (offers_of f o rs) ++ (c ∷ [])) (asked-listed s (room_for o) (record_ask f r) d ok)
            ∙ ap (◌++ (record_call f r ∷ [])) w.calls
            ∙ sym (calls-more rs r);
      }

  module _ (sizes : sizes_broken o ≡ false) (eof : by_eof o ≡ true) where
    -- what the session holds of the records so far
    pub record Holds (rs : List (List ℕ)) (s : Session) : Type 0 where
      pub read : Read f o rs s
      pub closed₀ : s.rest.closed ≡ closed_in rs
      pub taken₀ : s.rest.taken ≡ count_in rs
      pub few : count_in rs ≤ taken_most
      pub number : number_of s ≡ length rs + 1

    module _ (rs : List (List ℕ)) (s : Session) (w : Holds rs s) where
      pub opened : s.rest.opening ≡ o
      opened = ap (λ (x : Session). x.rest.opening) w.read.session ∙ after-opening o (offers_of f o rs)

      framed : by_eof s.rest.opening ≡ true
      framed = ap by_eof opened ∙ eof

      sound : record_broken s ≡ false
      sound = ap record_broken w.read.session ∙ sound-taken o (offers_of f o rs) sizes

      wide : s.rest.opening.frame ≤ length (room_for o)
      wide = omega (arith, length-replicate {0} {A = ℕ} o.frame 0, ap (λ (x : Opening). x.frame) opened)

      -- the room that is lent is the opening's
      pub lent : (c : Ask) → offer_of s c ≡ offer_with (room_for o) c
      lent c = ap (λ (x : Opening). offer_with (room_for x) c) opened

      module _ (r : List ℕ) (fine₀ : bad_after f rs r ≡ false) where
        still_open : s.rest.closed ≡ false
        still_open = w.closed₀ ∙ or-first (closed_in rs) (record_bad f r) fine₀

        good₀ : record_bad f r ≡ false
        good₀ = or-second (closed_in rs) (record_bad f r) fine₀

        abbrev x : Offer
        x = offer_with (room_for o) (record_ask f r)

        pub refuses-lent : refusal s x ≡ or_else (past_after rs r) 52 0
        refuses-lent =
            call-refusal f s (room_for o) r still_open (kind_at r) sound wide (short f r good₀) (rw w.taken₀ w.few)
            ∙ ap (λ (n : ℕ). or_else (ltb taken_most n) 52 0) (ap (◌+ cond (ltb (kind_at r) 2) 1 0) w.taken₀ ∙ sym (count-more rs r))

        pub refuses : refusal s (offer_of s (record_ask f r)) ≡ or_else (past_after rs r) 52 0
        refuses = ap (refusal s) (lent (record_ask f r)) ∙ refuses-lent

        pub goes_on : past_after rs r ≡ false → Holds (and rs r) (next s (offer_of s (record_ask f r)))
        goes_on e = rw (lent (record_ask f r)) held
          where
            ok : refusal s x ≡ 0
            ok = refuses-lent ∙ ap (λ (c : Bool). or_else c 52 0) e

            q : next s x ≡ next_call s (record_call f r)
            q = asked-next s (room_for o) (record_ask f r) framed ok

            held : Holds (and rs r) (next s x)
            held = record {
              read = read_more rs s r w.read framed ok;
              closed₀ = ap (λ (y : Session). y.rest.closed) q ∙ call-closed f s (room_for o) r still_open (kind_at r) (fine f r good₀).kind ∙ sym (closed-more rs r (or-first (closed_in rs) (record_bad f r) fine₀));
              taken₀ = ap (λ (y : Session). y.rest.taken) q ∙ call-taken f s (room_for o) r still_open (kind_at r) ∙ ap (◌+ cond (ltb (kind_at r) 2) 1 0) w.taken₀ ∙ sym (count-more rs r);
              few = ltb-false taken_most (count_in (and rs r)) e;
              number = ap number_of q ∙ call-number f s (room_for o) r still_open (record_ask f r) ∙ omega (arith, w.number, length-append rs (r ∷ []));
            }

    -- where a trace comes to from the records rs: its state is x, and its session holds the good ones gs too
    record Comes (rs : List (List ℕ)) (t : Trace) (x : State) (gs : List (List ℕ)) : Type 0 where
      pub state : t.state ≡ x
      pub held : Holds (rs ++ gs) t.session

    comes : (more rs : List (List ℕ)) (s : Session) → Holds rs s → Comes rs (traced f (good_of s) more) (state_after f rs more) (good_after f rs more)
    comes [] rs s w = record { state = refl; held = rw (append-nil rs) w }
    comes (r ∷ more) rs s w =
        go (bad_after f rs r) refl (past_after rs r) refl (comes more (and rs r) (next s (offer_of s (record_ask f r))))
      where
        stays : (t : Trace) (x : State) → traced f (good_of s) (r ∷ more) ≡ t → t.session ≡ s → t.state ≡ x → Comes rs (traced f (good_of s) (r ∷ more)) x []
        stays t x e c q = rw e (record { state = q; held = rw (c, append-nil rs) w })

        go : (x : Bool) → bad_after f rs r ≡ x → (y : Bool) → past_after rs r ≡ y
            → (Holds (and rs r) (next s (offer_of s (record_ask f r))) → Comes (and rs r) (traced f (good_of (next s (offer_of s (record_ask f r)))) more) (state_after f (and rs r) more) (good_after f (and rs r) more))
            → Comes rs (traced f (good_of s) (r ∷ more)) (cond x (Bad (length rs + 1)) (cond y (Refused 52 (length rs + 1)) (state_after f (and rs r) more))) (cond x [] (cond y [] (r ∷ good_after f (and rs r) more)))
        go true e y g rec = stays _ _ (on-bad f s r (ap (◌|| record_bad f r) w.closed₀ ∙ e) more) refl (ap Bad w.number)
        go false e true g rec =
            stays _ _ (on-refused f s r (ap (◌|| record_bad f r) w.closed₀ ∙ e) 51 (refuses rs s w r e ∙ ap (λ (c : Bool). or_else c 52 0) g) more) refl (ap (Refused 52) w.number)
        go false e false g rec =
            let i = rec (goes_on rs s w r e g) in
            let p = on-good f s r (ap (◌|| record_bad f r) w.closed₀ ∙ e) (refuses rs s w r e ∙ ap (λ (c : Bool). or_else c 52 0) g) more in
            rw p (record { state = i.state; held = rw (sym (append_assoc rs (r ∷ []) (good_after f (and rs r) more))) i.held })

    -- nothing is read yet
    pub holds-none : Holds [] (fresh o)
    holds-none = record {
      read = record { session = refl; calls = refl };
      closed₀ = refl;
      taken₀ = refl;
      few = omega arith;
      number = refl;
    }

    from-none : (rs : List (List ℕ)) → Comes [] (traced f (new_trace o) rs) (state_of f rs) (good_records f rs)
    from-none rs = comes rs [] (fresh o) holds-none

    pub held-at-end : (rs : List (List ℕ)) → Holds (good_records f rs) (traced f (new_trace o) rs).session
    held-at-end rs = (from-none rs).held

    -- HOW A TRACE STANDS
    pub state-right : (rs : List (List ℕ)) → (traced f (new_trace o) rs).state ≡ state_of f rs
    state-right rs = (from-none rs).state

    -- THE SESSION after the records, whether one decides or not: the calls of the good ones are taken, and no other
    pub session-right : (rs : List (List ℕ)) → Read f o (good_records f rs) (traced f (new_trace o) rs).session
    session-right rs = (from-none rs).held.read

    -- ---- what a record's call answers
    hands_none : (cs : List Call) (x : Reading) → hands_for x o cs ≡ false
    hands_none cs Idle = refl
    hands_none cs (Unreadable k) = refl
    hands_none cs (Readable h) = rw eof

    module _ (rs : List (List ℕ)) (s : Session) (w : Holds rs s) where
      abbrev cs : List Call
      cs = map (record_call f) rs

      answers : (c : Ask) → refusal s (offer_with (room_for o) c) ≡ 0 → said_for s (offer_with (room_for o) c) ≡ says_to o cs c
      answers (Ask.transfer t) ok =
          ap (λ (z : Session). Said.Transfer (take_of z (length (room_for o)) t).outcome) w.read.session
          ∙ ap Said.Transfer (transfer-answers o (offers_of f o rs) (room_for o) t (sym (ap (λ (z : Session). refusal z (Offer.take (room_for o) t)) w.read.session) ∙ ok))
          ∙ ap (λ (ds : List Call). Said.Transfer (outcome_of o ds t)) w.read.calls
          ∙ ap (λ (b : Bool). Said.Transfer (cond b (Outcome.Handed (out_of o (last_run o cs))) (Outcome.Taken (answer_of o cs t)))) (hands_none cs (reading_of o t))
      answers Ask.lost ok = refl
      answers Ask.close ok =
          ap (λ (z : Session). Said.Close (close_of z).closing) w.read.session
          ∙ ap Said.Close (close-answers o (offers_of f o rs) (sym (ap (λ (z : Session). refusal z Offer.close) w.read.session) ∙ ok))
          ∙ ap (λ (ds : List Call). Said.Close (Ok (ending_of o ds))) w.read.calls

      says-by : (r : List ℕ) (x : Bool) → bad_after f rs r ≡ x → said_of f s r ≡ said_by x s (record_ask f r)
      unfolding said_of
      says-by r x e = ap (λ (b : Bool). said_by b s (record_ask f r)) (ap (◌|| record_bad f r) w.closed₀ ∙ e)

      says-good : (r : List ℕ) → bad_after f rs r ≡ false → past_after rs r ≡ false → said_of f s r ≡ says_to o cs (record_ask f r)
      says-good r e g =
          says-by r false e
          ∙ ap (said_for s) (lent rs s w (record_ask f r))
          ∙ answers (record_ask f r) (refuses-lent rs s w r e ∙ ap (λ (c : Bool). or_else c 52 0) g)

    -- WHAT A RECORD'S CALL ANSWERS after these records: by the rule, for the calls of the good ones among them; and nothing where it is bad
    pub said-right : (rs : List (List ℕ)) (r : List ℕ) → bad_after f (good_records f rs) r ≡ false → past_after (good_records f rs) r ≡ false
        → said_of f (traced f (new_trace o) rs).session r ≡ says_to o (map (record_call f) (good_records f rs)) (record_ask f r)
    said-right rs r = says-good (good_records f rs) (traced f (new_trace o) rs).session (from-none rs).held r

    pub said-none : (rs : List (List ℕ)) (r : List ℕ) → bad_after f (good_records f rs) r ≡ true → said_of f (traced f (new_trace o) rs).session r ≡ Said.Nothing
    said-none rs r = says-by (good_records f rs) (traced f (new_trace o) rs).session (from-none rs).held r true
