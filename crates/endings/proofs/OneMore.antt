-- One offer more: the frames that ended are those that the session tells of it.
use Rattle.std.specs.Prelude.{None}
use Rattle.session_rules.specs.Options.{Stamp, Closing}
use Rattle.std.proofs.Common.{◌≡◌, ℕ, zero, suc, ◌≤◌, Bool, true, false, cond, not, ◌&&◌, List, [], ◌∷◌, ◌++◌, length, drop, sym, refl, ap, ◌∙◌, subst, true≢false, append-nil, arith, length-drop}
use Rattle.sizes.specs.declared.Opening.{Opening}
use Rattle.sizes.specs.Framing.{by_eof}
use Rattle.session_rules.specs.declared.Reading.{Reading}
use Rattle.session_rules.specs.declared.Reading.TheVariants.{Idle, Unreadable, Readable}
use Rattle.session_rules.specs.Transfer.{reading_of}
use Rattle.session_rules.specs.declared.Reason.{Reason}
use Rattle.session_rules.specs.declared.Reason.TheVariants.{Cut}
use Rattle.session_rules.specs.declared.Phase.{Phase}
use Rattle.session_rules.specs.declared.Phase.TheVariants.{Fresh, Under, Past}
use Rattle.session_rules.specs.Turns.{why_of, hands_by, hands_of}
use Rattle.session_rules.specs.declared.Session.{Session}
use Rattle.session_rules.specs.declared.Outcome.{Outcome}
use Rattle.session_rules.specs.Session.{fresh, hands_for, hands_out, take_by, take_of, close_by, close_of}
use Rattle.session_rules.specs.Call.{Call}
use Rattle.session_rules.specs.Calls.{Offer, refusal, after, call_of, unless, taken}
use Rattle.books.specs.Rule.{Event, idle, unreadable, missing, readable, mark, event_by, events, is_open, Seen, readables, first_stamp}
use Rattle.books.specs.Answer.{last_of, last_run, ended_in, turned_in, ending_of, goes_on, fate_on, with, answer_for, answer_of, hands_in}
use Rattle.books.specs.Answer as rule
use Rattle.books.proofs.Sound.{Fit, after-opening}
use Rattle.books.proofs.Taken.{listed, after_run, taken-proper}
use Rattle.books.proofs.Answers.{taken_more}
use Rattle.books.proofs.OneMore.{pending, seen_with, spoilt, noted, mark_last, grown, runs_in, runs_by, runs-more, last_in, last_more}
use Rattle.books.proofs.Tracked.{Tracks, part-closed, past-ended}
use Rattle.books.proofs.ByList.{Known, known-fresh, event_of, events-more, still_open, hands-as, transfer-answers, close-answers}
use Rattle.endings.specs.declared.How.{How}
use Rattle.endings.specs.declared.Ending.{Ending}
use Rattle.endings.specs.Endings.{ending_as, ending_from, endings_in, endings_of}
use Rattle.endings.specs.Inner.{how_out, tell_ended, tell_fate, tell_taken, tell_closed, told_in, list_in, told_by}
use Rattle.endings.proofs.Frames.{under_none, part-ending, closed-any, gap-ends-none, mark-ends}
use Rattle.endings.proofs.Runs.{runs-filled, added-ends, changed-ends, Closes, closed-ends}
use Rattle.endings.proofs.Read.{read-ends}
use Rattle.endings.proofs.Bounded.{never-wraps}

-- ---- close
close-told : (o : Opening) (ph : Phase) (r : List Seen) → Tracks o ph r → Closes o r (told_in (tell_ended ph (ended_in o false true r)) ++ [])
close-told o Fresh r k = subst (λ (l : List Seen). Closes o l (told_in (tell_ended Fresh (ended_in o false true l)) ++ [])) (sym k) refl
close-told o (Under x) [] k = absurd k.0
close-told o (Under x) (u ∷ us) k =
    let r : List Seen = u ∷ us in
    let w : Reason = why_of x.fault Cut in
    let e = part-closed o x u us k.1 in
    rw e
    (part-ending o false true u us w k.1.going e
    ∙ ap (λ (l : ℕ). ending_as (How.Dropped w) l (first_stamp r) ∷ []) (sym k.1.bytes₀)
    ∙ ap (λ (z : Stamp). ending_as (How.Dropped w) x.bytes z ∷ []) (sym k.1.stamp₀)
    ∙ ap (◌++ (ending_as (How.Dropped w) x.bytes x.stamp ∷ [])) (sym (under_none o r k.1.going)))
close-told o (Past f) [] k = absurd k.0
close-told o (Past f) (u ∷ us) k =
    let r : List Seen = u ∷ us in
    rw (past-ended o false true u us k.1) (closed-any o false true r k.1 ∙ sym (append-nil (ending_from o true true r)))

-- ---- a call more
open_more : (cs : List Call) (c : Call) → is_open cs ≡ true → is_open (cs ++ (c ∷ [])) ≡ is_open (c ∷ [])
open_more [] c e = refl
open_more (Call.transfer t ∷ cs) c e = open_more cs c e
open_more (Call.lost ∷ cs) c e = open_more cs c e
open_more (Call.handed ∷ cs) c e = open_more cs c e
open_more (Call.close ∷ cs) c e = absurd (true≢false (sym e))

module _ (o : Opening) (xs : List Offer) where
  abbrev s : Session
  s = after (fresh o) xs

  abbrev cs : List Call
  cs = taken (fresh o) xs

  abbrev es : List Event
  es = events o cs

  abbrev ph : Phase
  ph = s.rest.track.phase

  abbrev last : List Seen
  last = last_run o cs

  module _ (x : Offer) (ok : refusal s x ≡ 0) where
    opened : is_open cs ≡ true
    opened = still_open o xs x ok

    known : Known es s
    known = subst (Known es) (sym (after_run (fresh o) xs)) (known-fresh o cs opened (taken-proper (fresh o) xs))

    tracks : Tracks o ph last
    tracks = subst (λ (p : Opening). Tracks p ph last) (after-opening o xs) known.tracks

    fits : Fit o.frame ph
    fits = subst (λ (p : Opening). Fit p.frame ph) (after-opening o xs) known.fit

    -- with an event more, while the session is open
    grows : (c : Call) (e : Event) (y : List Ending) → is_open (c ∷ []) ≡ true → event_of o c ≡ e ∷ []
        → endings_in o true (runs_by e (runs_in es) (pending false es)) ≡ endings_in o true (runs_in es) ++ y
        → endings_of o (cs ++ (c ∷ [])) ≡ endings_of o cs ++ y
    grows c e y p q z =
        ap (λ (b : Bool). endings_in o b (runs_in (events o (cs ++ (c ∷ []))))) (open_more cs c opened ∙ p)
        ∙ ap (λ (l : List Event). endings_in o true (runs_in l)) (events-more o cs c opened ∙ ap (es ++◌) q)
        ∙ ap (endings_in o true) (runs-more e es)
        ∙ z
        ∙ ap (λ (b : Bool). endings_in o b (runs_in es) ++ y) (sym opened)

    same_ends : (rs : List (List Seen)) → endings_in o true rs ≡ endings_in o true rs ++ []
    same_ends rs = sym (append-nil (endings_in o true rs))

    gap_ends : (rs : List (List Seen)) → endings_in o true (runs_by missing rs false) ≡ endings_in o true rs ++ []
    gap_ends rs = changed-ends o spoilt [] rs (gap-ends-none o (last_of rs) ∙ sym (append-nil (ending_from o true true (last_of rs))))

  -- ---- a transfer
  module _ (b t : List ℕ) (ok : refusal s (Offer.take b t) ≡ 0) where
    abbrev x : Offer
    x = Offer.take b t

    -- what is told of the answer, by the reading
    abbrev says : Reading → List Ending
    says q = told_in (tell_ended ph (answer_for q o cs t).ended) ++ told_in (tell_fate q ph (length t) (answer_for q o cs t).fate)

    taken-ends : (q : Reading) → reading_of o t ≡ q → hands_for q s ≡ false → endings_of o (cs ++ (Call.transfer t ∷ [])) ≡ endings_of o cs ++ says q
    unfolding hands_of
    taken-ends Idle e n = grows x ok (Call.transfer t) idle [] refl (ap (λ (q : Reading). event_by q t ∷ []) e) (same_ends x ok (runs_in es))
    taken-ends (Unreadable k) e n = grows x ok (Call.transfer t) (unreadable (length t)) [] refl (ap (λ (q : Reading). event_by q t ∷ []) e) (gap_ends x ok (runs_in es))
    taken-ends (Readable h) e n =
        let d : List ℕ = drop h.len t in
        let v : Event = readable h d in
        let g : Seen = seen_with h d (pending false es) in
        let at_last : last_run o (with cs t) ≡ grown last g =
        ap last_in (events-more o cs (Call.transfer t) (opened x ok) ∙ ap (λ (q : Reading). es ++ (event_by q t ∷ [])) e) ∙ last_more v es in
        let few : length d ≤ length t = rw (length-drop h.len t) (omega arith) in
        grows x ok (Call.transfer t) v (says (Readable h)) refl (ap (λ (q : Reading). event_by q t ∷ []) e)
        (subst (λ (l : List Seen). endings_in o true (runs_by v (runs_in es) (pending false es)) ≡ endings_in o true (runs_in es)
        ++ (told_in (tell_ended ph (cond (goes_on h last) None (turned_in o last))) ++ told_in (tell_fate (Readable h) ph (length t) (fate_on o l)))) (sym at_last)
        (added-ends o g (told_in (tell_ended ph (cond (goes_on h last) None (turned_in o last))) ++ told_in (tell_fate (Readable h) ph (length t) (fate_on o (grown last g)))) (runs_in es)
        (read-ends o h d (pending false es) (length t) (sym (length-drop h.len t)) ph last (tracks x ok) (fits x ok)
        (subst (λ (p : Opening). hands_by ph p h ≡ false) (after-opening o xs) n) (never-wraps o xs b t ok h.fid (length d) few))))

    -- ---- a hand-out
    handed-ends : (q : Reading) → rule.hands_for q o cs ≡ true → endings_of o (cs ++ (Call.handed ∷ [])) ≡ endings_of o cs ++ (told_in (how_out (rule.out_of o last).still (rule.out_of o last).delivery) ++ [])
    handed-ends Idle n = absurd (true≢false (sym n))
    handed-ends (Unreadable k) n = absurd (true≢false (sym n))
    handed-ends (Readable h) n =
        grows x ok Call.handed mark (told_in (how_out (rule.out_of o last).still (rule.out_of o last).delivery)) refl refl
        (changed-ends o noted (told_in (how_out (rule.out_of o last).still (rule.out_of o last).delivery)) (runs_in es) (go last n))
      where
        none : (c : Bool) → (not c && false) ≡ true → ⊥
        none true q = true≢false (sym q)
        none false q = true≢false (sym q)

        go : (r : List Seen) → hands_in o h r ≡ true
            → ending_from o true true (mark_last r) ≡ ending_from o true true r ++ told_in (how_out (rule.out_of o r).still (rule.out_of o r).delivery)
        go [] q = absurd (none (by_eof o) q)
        go (u ∷ us) q = mark-ends o h u us q

    -- ---- either
    by_answer : (c : Bool) → hands_out s t ≡ c
        → endings_of o (cs ++ (cond c Call.handed (Call.transfer t) ∷ [])) ≡ endings_of o cs ++ list_in (tell_taken s.rest t (cond c (Outcome.Handed (rule.out_of o last)) (Outcome.Taken (answer_of o cs t))))
    unfolding hands_out
    by_answer true e = handed-ends (reading_of o t) (sym (hands-as o xs b t ok) ∙ e)
    by_answer false e =
        taken-ends (reading_of o t) refl (subst (λ (p : Opening). hands_for (reading_of p t) s ≡ false) (after-opening o xs) e)
        ∙ ap (λ (p : Opening). endings_of o cs ++ (told_in (tell_ended ph (answer_of o cs t).ended) ++ told_in (tell_fate (reading_of p t) ph (length t) (answer_of o cs t).fate))) (sym (after-opening o xs))

    take_ends : endings_of o (cs ++ (call_of s x ∷ [])) ≡ endings_of o cs ++ list_in (told_by s x)
    take_ends =
        ap (λ (c : Call). endings_of o (cs ++ (c ∷ []))) (listed s b t (hands_out s t) ok refl)
        ∙ by_answer (hands_out s t) refl
        ∙ ap (λ (c : Bool). endings_of o cs ++ list_in (tell_taken s.rest t (cond c (Outcome.Handed (rule.out_of o last)) (Outcome.Taken (answer_of o cs t))))) (hands-as o xs b t ok)
        ∙ ap (λ (a : Outcome). endings_of o cs ++ list_in (tell_taken s.rest t a)) (sym (transfer-answers o xs b t ok))

  -- ---- a lost report ends no frame
  lost-ends : refusal s Offer.lost ≡ 0 → endings_of o (cs ++ (Call.lost ∷ [])) ≡ endings_of o cs ++ []
  lost-ends ok = grows Offer.lost ok Call.lost missing [] refl refl (gap_ends Offer.lost ok (runs_in es))

  -- ---- close
  close-ends : refusal s Offer.close ≡ 0 → endings_of o (cs ++ (Call.close ∷ [])) ≡ endings_of o cs ++ list_in (told_by s Offer.close)
  close-ends ok =
      let y : List Ending = told_in (tell_ended ph (ending_of o cs)) ++ [] in
      let p = opened Offer.close ok in
      ap (λ (b : Bool). endings_in o b (runs_in (events o (cs ++ (Call.close ∷ []))))) (open_more cs Call.close p)
      ∙ ap (λ (l : List Event). endings_in o false (runs_in l)) (events-more o cs Call.close p ∙ append-nil es)
      ∙ closed-ends o (runs_in es) y (runs-filled (readables false es)) (close-told o ph last (tracks Offer.close ok))
      ∙ ap (λ (b : Bool). endings_in o b (runs_in es) ++ y) (sym p)
      ∙ ap (λ (a : Closing). endings_of o cs ++ list_in (tell_closed s.rest a)) (sym (close-answers o xs ok))

  -- ---- EVERY OFFER
  taken-so : (x : Offer) → refusal s x ≡ 0 → endings_of o (cs ++ (call_of s x ∷ [])) ≡ endings_of o cs ++ list_in (told_by s x)
  taken-so (Offer.take b t) ok = take_ends b t ok
  taken-so Offer.lost ok = lost-ends ok
  taken-so Offer.close ok = close-ends ok

  refused-so : (x : Offer) (k : ℕ) → refusal s x ≡ suc k → list_in (told_by s x) ≡ []
  unfolding take_of close_of
  refused-so (Offer.take b t) k e = ap (λ (n : ℕ). list_in (tell_taken s.rest t (take_by n s t).outcome)) e
  refused-so Offer.lost k e = refl
  refused-so Offer.close k e = ap (λ (n : ℕ). list_in (tell_closed s.rest (close_by n s).closing)) e

  pub one_more : (x : Offer) → endings_of o (taken (fresh o) (xs ++ (x ∷ []))) ≡ endings_of o cs ++ list_in (told_by s x)
  one_more x = ap (endings_of o) (taken_more xs x (fresh o)) ∙ go (refusal s x) refl
    where
      go : (k : ℕ) → refusal s x ≡ k → endings_of o (cs ++ unless k (call_of s x) []) ≡ endings_of o cs ++ list_in (told_by s x)
      go zero e = taken-so x e
      go (suc k) e = ap (endings_of o) (append-nil cs) ∙ sym (append-nil (endings_of o cs)) ∙ ap (endings_of o cs ++◌) (sym (refused-so x k e))
