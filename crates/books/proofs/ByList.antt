-- What a taken call answers and writes is what the rule says of the list: over any calls from a fresh session.
use Rattle.std.specs.Prelude.{None, Some, Ok}
use Prim.Native.Nat.{ℕ, ◌-◌}
use mathlib.Core.Path.{◌≡◌, refl, sym, ◌∙◌, ap, subst}
use mathlib.Core.Bool.{Bool, true, false, cond, true≢false}
use mathlib.Core.List.{List, [], ◌∷◌, ◌++◌, append_assoc, append-nil}
use lib.ListN.{length, drop, length-drop}
use Rattle.sizes.specs.declared.Opening.{Opening}
use Rattle.sizes.specs.Framing.{by_eof}
use Rattle.session_rules.specs.declared.Header.{Header}
use Rattle.session_rules.specs.declared.Reading.{Reading}
use Rattle.session_rules.specs.declared.Reading.TheVariants.{Idle, Unreadable, Readable}
use Rattle.session_rules.specs.Transfer.{reading_of}
use Rattle.session_rules.specs.declared.Reason.TheVariants.{Gap}
use Rattle.session_rules.specs.declared.Phase.{Phase}
use Rattle.session_rules.specs.declared.Phase.TheVariants.{Fresh, Under, Past}
use Rattle.session_rules.specs.declared.Turn.{Turn}
use Rattle.session_rules.specs.Turns.{turn_of, hands_by, hands_of, out_of, spoilt_by, spoilt_of, closed_by, closed_of}
use Rattle.session_rules.specs.Turns as track
use Rattle.session_rules.specs.declared.Session.{Session}
use Rattle.session_rules.specs.declared.Outcome.{Outcome}
use Rattle.session_rules.specs.Session.{fresh, read_of, took_by, took_of, hands_for, hands_out, handed_of, met_by, met_buffer_by, missed_of, take_by, take_of, took_buffer_by, took_buffer, buffer_by, buffer_of, lost_by, lost_of, close_by, close_of}
use Rattle.session_rules.specs.Call.{Call}
use Rattle.session_rules.specs.Calls.{Offer, refusal, after, call_of, taken, next_call, run}
use Rattle.books.specs.Rule.{Event, idle, unreadable, missing, readable, mark, event_by, events, is_open, Seen, ◌or◌}
use Rattle.books.specs.Answer.{last_run, ended_in, turned_in, ending_of, goes_on, fate_on, with, answer_for, answer_of, hands, outcome_of, written_for, written_of}
use Rattle.books.specs.Answer as rule
use Rattle.books.specs.HandedOut.{Passed, MarkedBefore}
use Rattle.books.proofs.Cut.{first-or}
use Rattle.books.proofs.Taken.{after_run, Hands, Proper, taken-proper}
use Rattle.books.proofs.History.{next-opening, turn_gap, whole-now, out-gap}
use Rattle.books.proofs.Owed.{hands-whole}
use Rattle.books.proofs.Sound.{Fit, fit-took, fit_next, fit-out, run-opening}
use Rattle.books.proofs.Answers.{answer_by, took-answer, more-proper}
use Rattle.books.proofs.OneMore.{pending, pending-more, seen_with, spoilt, noted, spoil_last, runs_in, runs_by, runs-more, last_in, last_more}
use Rattle.books.proofs.Grown.{closed-spoilt, data-spoilt, stamp-spoilt, layer-spoilt, still-spoilt, fault-spoilt}
use Rattle.books.proofs.Tracked.{Of, Tracks, Turned, turn-right, part-closed, past-ended, hands-right, out-right, out-tracks}
use Rattle.books.proofs.Passed.{changed-passed, added-passed, turned-marked}

-- ---- an unreadable or lost transfer
spoilt-of : (f : Bool) (r : List Seen) → Of f r → Of f (spoil_last r)
spoilt-of f [] e = e
spoilt-of f (t ∷ []) e = e
spoilt-of f (t ∷ (u ∷ us)) e = e

spoilt-tracks : (o : Opening) (ph : Phase) (r : List Seen) → Tracks o ph r → Tracks o (spoilt_by ph) (spoil_last r)
spoilt-tracks o Fresh r e = ap spoil_last e
spoilt-tracks o (Under x) [] e = absurd e.0
spoilt-tracks o (Under x) (u ∷ us) e =
    let r : List Seen = u ∷ us in
    let p = e.1 in (
      spoilt-of x.fid r e.0,
      record {
        going = closed-spoilt o r ∙ p.going;
        fault₀ = first-or x.fault true Gap ∙ ap (◌or Some Gap) p.fault₀ ∙ sym (fault-spoilt o u us p.going);
        still₀ = p.still₀ ∙ sym (still-spoilt r);
        stamp₀ = p.stamp₀ ∙ sym (stamp-spoilt r);
        layer₀ = p.layer₀ ∙ sym (layer-spoilt r);
        bytes₀ = p.bytes₀ ∙ ap length (sym (data-spoilt r));
      },
    )
spoilt-tracks o (Past f) r e = (spoilt-of f r e.0, closed-spoilt o r ∙ e.1)

-- ---- close
closed-right : (o : Opening) (ph : Phase) (b : Bool) (r : List Seen) → Tracks o ph r → (closed_by ph b).ended ≡ ended_in o false true r
closed-right o Fresh b r e = ap (ended_in o false true) (sym e)
closed-right o (Under x) b [] e = absurd e.0
closed-right o (Under x) b (u ∷ us) e = sym (part-closed o x u us e.1)
closed-right o (Past f) b [] e = absurd e.0
closed-right o (Past f) b (u ∷ us) e = sym (past-ended o false true u us e.1)

-- ---- what a session knows of the events so far
pub record Known (es : List Event) (s : Session) : Type 0 where
  pub gap : s.rest.track.gap ≡ pending false es
  pub tracks : Tracks s.rest.opening s.rest.track.phase (last_in es)
  pub fit : Fit s.rest.opening.frame s.rest.track.phase
  pub told : by_eof s.rest.opening ≡ false → Passed s.rest.opening (runs_in es)

abbrev and : List Event → Event → List Event
and es e = es ++ (e ∷ [])

-- what a turn makes of the last run
read-turned : (es : List Event) (s : Session) (t : List ℕ) (h : Header) → Known es s → hands_for (Readable h) s ≡ false
    → Turned s.rest.opening h (drop h.len t) (last_in es) (last_in (and es (readable h (drop h.len t)))) (turn_of s.rest.opening s.rest.track h (length t - h.len))
unfolding turn_of hands_of
read-turned es s t h k n =
    let d : List ℕ = drop h.len t in
    rw (last_more (readable h d) es, ← k.gap, ← length-drop h.len t) (turn-right s.rest.opening h d s.rest.track.gap s.rest.track.phase (last_in es) k.tracks k.fit n)

known-gap : (es : List Event) (s : Session) (e : Event) → last_in (and es e) ≡ spoil_last (last_in es) → Known es s → Tracks s.rest.opening (spoilt_by s.rest.track.phase) (last_in (and es e))
known-gap es s e q k = rw q (spoilt-tracks s.rest.opening s.rest.track.phase (last_in es) k.tracks)

-- every run but the last has its mark, with one event more
told-as : (o : Opening) (es : List Event) (e : Event) → Passed o (runs_by e (runs_in es) (pending false es)) → Passed o (runs_in (and es e))
told-as o es e p = subst (Passed o) (sym (runs-more e es)) p

told-read : (es : List Event) (s : Session) (h : Header) (d : List ℕ) → Known es s → hands_for (Readable h) s ≡ false → by_eof s.rest.opening ≡ false
    → Passed s.rest.opening (runs_in (and es (readable h d)))
unfolding hands_of
told-read es s h d k n c =
    let o : Opening = s.rest.opening in
    told-as o es (readable h d) (added-passed o (runs_in es) (seen_with h d (pending false es)) (k.told c)
    (λ u us q e. turned-marked o c h d (pending false es) s.rest.track.phase u us (subst (Tracks o s.rest.track.phase) q k.tracks) n e))

known-took : (es : List Event) (s : Session) (t : List ℕ) (r : Reading) → Known es s → hands_for r s ≡ false → Known (and es (event_by r t)) (took_by r s t).session
unfolding read_of spoilt_of turn_of
known-took es s t Idle k n = record {
  gap = k.gap ∙ sym (pending-more idle false es);
  tracks = rw (last_more idle es) k.tracks;
  fit = k.fit;
  told = λ c. told-as s.rest.opening es idle (k.told c);
}
known-took es s t (Unreadable m) k n = record {
  gap = sym (pending-more (unreadable (length t)) false es);
  tracks = known-gap es s (unreadable (length t)) (last_more (unreadable (length t)) es) k;
  fit = fit-took s t (Unreadable m) k.fit;
  told = λ c. told-as s.rest.opening es (unreadable (length t)) (changed-passed s.rest.opening spoilt (runs_in es) (k.told c));
}
known-took es s t (Readable h) k n = record {
  gap = turn_gap s.rest.opening h (length t - h.len) s.rest.track.phase s.rest.track.gap ∙ sym (pending-more (readable h (drop h.len t)) false es);
  tracks = (read-turned es s t h k n).tracks;
  fit = fit-took s t (Readable h) k.fit;
  told = λ c. told-read es s h (drop h.len t) k n c;
}

known-lost : (es : List Event) (s : Session) → Known es s → Known (and es missing) (missed_of s)
unfolding spoilt_of
known-lost es s k = record {
  gap = sym (pending-more missing false es);
  tracks = known-gap es s missing (last_more missing es) k;
  fit = fit_next s Call.lost k.fit;
  told = λ c. told-as s.rest.opening es missing (changed-passed s.rest.opening spoilt (runs_in es) (k.told c));
}

known-handed : (es : List Event) (s : Session) → Hands s → Known es s → Known (and es mark) (handed_of s).session
unfolding handed_of out_of
known-handed es s h k = record {
  gap = out-gap s.rest.track.phase s.rest.track.gap ∙ k.gap ∙ sym (pending-more mark false es);
  tracks = rw (last_more mark es) (out-tracks s.rest.opening s.rest.track.phase s.rest.track.gap (last_in es) (whole-now s h) k.tracks);
  fit = fit-out s.rest.opening.frame s.rest.track.phase s.rest.track.gap;
  told = λ c. told-as s.rest.opening es mark (changed-passed s.rest.opening noted (runs_in es) (k.told c));
}

known-run : (cs : List Call) (es : List Event) (s : Session) → is_open cs ≡ true → Proper s cs → Known es s → Known (es ++ events s.rest.opening cs) (run s cs)
unfolding took_of hands_out
known-run [] es s p q k = rw (append-nil es) k
known-run (Call.transfer t ∷ cs) es s p q k =
    let c : Call = Call.transfer t in
    let e : Event = event_by (reading_of s.rest.opening t) t in
    subst (λ (l : List Event). Known l (run (next_call s c) cs)) (ap (λ (o : Opening). and es e ++ events o cs) (next-opening s c) ∙ append_assoc es (e ∷ []) (events s.rest.opening cs))
    (known-run cs (and es e) (next_call s c) p q.1 (known-took es s t (reading_of s.rest.opening t) k q.0))
known-run (Call.lost ∷ cs) es s p q k =
    subst (λ (l : List Event). Known l (run (missed_of s) cs)) (append_assoc es (missing ∷ []) (events s.rest.opening cs)) (known-run cs (and es missing) (missed_of s) p q (known-lost es s k))
known-run (Call.handed ∷ cs) es s p q k =
    let c : Call = Call.handed in
    subst (λ (l : List Event). Known l (run (next_call s c) cs)) (ap (λ (o : Opening). and es mark ++ events o cs) (next-opening s c) ∙ append_assoc es (mark ∷ []) (events s.rest.opening cs))
    (known-run cs (and es mark) (next_call s c) p q.1 (known-handed es s q.0 k))
known-run (Call.close ∷ cs) es s p q k = absurd (true≢false (sym p))

pub known-fresh : (o : Opening) (cs : List Call) → is_open cs ≡ true → Proper (fresh o) cs → Known (events o cs) (run (fresh o) cs)
known-fresh o cs p q = known-run cs [] (fresh o) p q (record { gap = refl; tracks = refl; fit = tt; told = λ c. tt })

-- ---- a call that is taken comes while the session is open
open-before : (cs : List Call) (c : Call) (s : Session) → Proper s (cs ++ (c ∷ [])) → is_open cs ≡ true
open-before [] c s p = refl
open-before (Call.transfer t ∷ cs) c s p = open-before cs c (next_call s (Call.transfer t)) p.1
open-before (Call.lost ∷ cs) c s p = open-before cs c (next_call s Call.lost) p
open-before (Call.handed ∷ cs) c s p = open-before cs c (next_call s Call.handed) p.1
open-before (Call.close ∷ []) c s p = absurd p
open-before (Call.close ∷ (x ∷ cs)) c s p = absurd p

-- what a call is to the rule; close is nothing more
abbrev pub event_of : Opening → Call → List Event
event_of o (Call.transfer t) = event_by (reading_of o t) t ∷ []
event_of o Call.lost = missing ∷ []
event_of o Call.handed = mark ∷ []
event_of o Call.close = []

pub events-more : (o : Opening) (cs : List Call) (c : Call) → is_open cs ≡ true → events o (cs ++ (c ∷ [])) ≡ events o cs ++ event_of o c
events-more o [] (Call.transfer t) p = refl
events-more o [] Call.lost p = refl
events-more o [] Call.handed p = refl
events-more o [] Call.close p = refl
events-more o (Call.transfer u ∷ cs) c p = ap (event_by (reading_of o u) u ∷◌) (events-more o cs c p)
events-more o (Call.lost ∷ cs) c p = ap (missing ∷◌) (events-more o cs c p)
events-more o (Call.handed ∷ cs) c p = ap (mark ∷◌) (events-more o cs c p)
events-more o (Call.close ∷ cs) c p = absurd (true≢false (sym p))

-- the calls up to close: to the rule's events they are all there are
abbrev until : List Call → List Call
until [] = []
until (Call.transfer t ∷ cs) = Call.transfer t ∷ until cs
until (Call.lost ∷ cs) = Call.lost ∷ until cs
until (Call.handed ∷ cs) = Call.handed ∷ until cs
until (Call.close ∷ cs) = []

until_open : (cs : List Call) → is_open (until cs) ≡ true
until_open [] = refl
until_open (Call.transfer t ∷ cs) = until_open cs
until_open (Call.lost ∷ cs) = until_open cs
until_open (Call.handed ∷ cs) = until_open cs
until_open (Call.close ∷ cs) = refl

until-events : (o : Opening) (cs : List Call) → events o (until cs) ≡ events o cs
until-events o [] = refl
until-events o (Call.transfer t ∷ cs) = ap (event_by (reading_of o t) t ∷◌) (until-events o cs)
until-events o (Call.lost ∷ cs) = ap (missing ∷◌) (until-events o cs)
until-events o (Call.handed ∷ cs) = ap (mark ∷◌) (until-events o cs)
until-events o (Call.close ∷ cs) = refl

until-proper : (cs : List Call) (s : Session) → Proper s cs → Proper s (until cs)
until-proper [] s p = tt
until-proper (Call.transfer t ∷ cs) s p = (p.0, until-proper cs (next_call s (Call.transfer t)) p.1)
until-proper (Call.lost ∷ cs) s p = until-proper cs (next_call s Call.lost) p
until-proper (Call.handed ∷ cs) s p = (p.0, until-proper cs (next_call s Call.handed) p.1)
until-proper (Call.close ∷ cs) s p = tt

pub all-marked : (o : Opening) (cs : List Call) → by_eof o ≡ false → Proper (fresh o) cs → MarkedBefore o cs
all-marked o cs c p =
    let k = known-fresh o (until cs) (until_open cs) (until-proper cs (fresh o) p) in
    subst (λ (es : List Event). Passed o (runs_in es)) (until-events o cs)
    (subst (λ (q : Opening). by_eof q ≡ false → Passed q (runs_in (events o (until cs)))) (run-opening (until cs) (fresh o)) k.told c)

module _ (o : Opening) (xs : List Offer) where
  abbrev heard : List Call
  heard = taken (fresh o) xs

  abbrev here : Session
  here = run (fresh o) heard

  module _ (x : Offer) (ok : refusal (after (fresh o) xs) x ≡ 0) where
    pub still_open : is_open heard ≡ true
    still_open = open-before heard _ (fresh o) (more-proper o xs x (call_of (after (fresh o) xs) x) ok refl)

    known : Known (events o heard) here
    known = known-fresh o heard still_open (taken-proper (fresh o) xs)

    tracks : Tracks o here.rest.track.phase (last_run o heard)
    tracks = subst (λ (p : Opening). Tracks p here.rest.track.phase (last_run o heard)) (run-opening heard (fresh o)) known.tracks

  -- ---- a transfer
  module _ (b t : List ℕ) (ok : refusal (after (fresh o) xs) (Offer.take b t) ≡ 0) where
    -- it hands out where the rule says so
    hands-here : (r : Reading) → hands_for r here ≡ rule.hands_for r o heard
    unfolding hands_of
    hands-here Idle = refl
    hands-here (Unreadable k) = refl
    hands-here (Readable h) =
        ap (λ (p : Opening). hands_by here.rest.track.phase p h) (run-opening heard (fresh o)) ∙ hands-right o h here.rest.track.phase (last_run o heard) (tracks (Offer.take b t) ok)

    pub hands-as : hands_out (after (fresh o) xs) t ≡ hands o heard t
    unfolding hands_out
    hands-as =
        ap (λ (s : Session). hands_for (reading_of s.rest.opening t) s) (after_run (fresh o) xs)
        ∙ ap (λ (p : Opening). hands_for (reading_of p t) here) (run-opening heard (fresh o))
        ∙ hands-here (reading_of o t)

    read : (h : Header) → event_by (reading_of o t) t ≡ readable h (drop h.len t) → hands_for (Readable h) here ≡ false
        → Turned o h (drop h.len t) (last_run o heard) (last_run o (with heard t)) (turn_of o here.rest.track h (length t - h.len))
    read h e n =
        rw (events-more o heard (Call.transfer t) (still_open (Offer.take b t) ok), e)
        (subst (λ (p : Opening). Turned p h (drop h.len t) (last_run o heard) (last_in (and (events o heard) (readable h (drop h.len t)))) (turn_of p here.rest.track h (length t - h.len))) (run-opening heard (fresh o))
        (read-turned (events o heard) here t h (known (Offer.take b t) ok) n))

    both : {h : Header} {d : List ℕ} {r u : List Seen} {T : Turn} → Turned o h d r u T → T.answer ≡ record { ended = cond (goes_on h r) None (turned_in o r); fate = fate_on o u }
    both z = λ i. record { ended = z.ended i; fate = z.fate i }

    answered : (r : Reading) → reading_of o t ≡ r → hands_for r here ≡ false → answer_by r here t ≡ answer_for r o heard t
    answered Idle e n = refl
    answered (Unreadable k) e n = refl
    answered (Readable h) e n =
        let z = read h (ap (λ (q : Reading). event_by q t) e) n in
        ap (λ (p : Opening). (turn_of p here.rest.track h (length t - h.len)).answer) (run-opening heard (fresh o)) ∙ both z

    wrote : (B : List ℕ) (r : Reading) → reading_of o t ≡ r → hands_for r here ≡ false → took_buffer_by r here B t ≡ written_for r o heard t B
    wrote B Idle e n = refl
    wrote B (Unreadable k) e n = refl
    wrote B (Readable h) e n = rw (run-opening heard (fresh o)) ((read h (ap (λ (q : Reading). event_by q t) e) n).written B)

    handed-frame : (r : Reading) → hands_for r here ≡ true → (track.out_of here.rest.track).frame ≡ rule.out_of o (last_run o heard)
    unfolding track.out_of hands_of
    handed-frame Idle e = absurd (true≢false (sym e))
    handed-frame (Unreadable k) e = absurd (true≢false (sym e))
    handed-frame (Readable h) e =
        out-right o here.rest.track.phase here.rest.track.gap (last_run o heard) (hands-whole here.rest.track.phase here.rest.opening h e) (tracks (Offer.take b t) ok)

    met-outcome : (c : Bool) → hands_for (reading_of o t) here ≡ c → (met_by c here t).outcome ≡ cond c (Outcome.Handed (rule.out_of o (last_run o heard))) (Outcome.Taken (answer_of o heard t))
    unfolding handed_of took_of
    met-outcome true e = ap Outcome.Handed (handed-frame (reading_of o t) e)
    met-outcome false e =
        took-answer here t (reading_of here.rest.opening t)
        ∙ ap (λ (p : Opening). Outcome.Taken (answer_by (reading_of p t) here t)) (run-opening heard (fresh o))
        ∙ ap Outcome.Taken (answered (reading_of o t) refl e)

    pub transfer-answers : (take_of (after (fresh o) xs) (length b) t).outcome ≡ outcome_of o heard t
    unfolding take_of
    transfer-answers =
        ap (λ (k : ℕ). (take_by k (after (fresh o) xs) t).outcome) ok
        ∙ ap (λ (c : Bool). (met_by c (after (fresh o) xs) t).outcome) hands-as
        ∙ ap (λ (s : Session). (met_by (hands o heard t) s t).outcome) (after_run (fresh o) xs)
        ∙ met-outcome (hands o heard t) (hands-here (reading_of o t))

    met-writes : (c : Bool) → hands_for (reading_of o t) here ≡ c → met_buffer_by c here b t ≡ cond c b (written_for (reading_of o t) o heard t b)
    unfolding took_buffer
    met-writes true e = refl
    met-writes false e = ap (λ (p : Opening). took_buffer_by (reading_of p t) here b t) (run-opening heard (fresh o)) ∙ wrote b (reading_of o t) refl e

    pub transfer-writes : buffer_of (after (fresh o) xs) b t ≡ written_of o heard t b
    unfolding buffer_of
    transfer-writes =
        ap (λ (k : ℕ). buffer_by k (after (fresh o) xs) b t) ok
        ∙ ap (λ (c : Bool). met_buffer_by c (after (fresh o) xs) b t) hands-as
        ∙ ap (λ (s : Session). met_buffer_by (hands o heard t) s b t) (after_run (fresh o) xs)
        ∙ met-writes (hands o heard t) (hands-here (reading_of o t))

  -- ---- a lost report, and close
  pub lost-answers : refusal (after (fresh o) xs) Offer.lost ≡ 0 → (lost_of (after (fresh o) xs)).report ≡ Ok tt
  unfolding lost_of
  lost-answers ok = ap (λ (k : ℕ). (lost_by k (after (fresh o) xs)).report) ok

  pub close-answers : refusal (after (fresh o) xs) Offer.close ≡ 0 → (close_of (after (fresh o) xs)).closing ≡ Ok (ending_of o heard)
  unfolding close_of closed_of
  close-answers ok =
      ap (λ (n : ℕ). (close_by n (after (fresh o) xs)).closing) ok
      ∙ ap (λ (s : Session). Ok (closed_of s.rest.track).ended) (after_run (fresh o) xs)
      ∙ ap Ok (closed-right o here.rest.track.phase here.rest.track.gap (last_run o heard) (tracks Offer.close ok))
