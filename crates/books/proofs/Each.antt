-- What every readable transfer's header has, every transfer of each run's frame has; so has the rule's entry of that frame what follows from it, and so have the answers.
use Rattle.std.specs.Prelude.{None}
use Rattle.session_rules.specs.Options.{Ended}
use Prim.Native.Nat.{ℕ, zero, suc}
use mathlib.Core.Path.{◌≡◌, refl, sym, ◌∙◌, ap, subst}
use mathlib.Core.Bool.{Bool, true, false, cond, ◌&&◌}
use mathlib.Core.List.{List, [], ◌∷◌, ◌++◌, map}
use lib.ListN.{length}
use Rattle.sizes.specs.declared.Opening.{Opening}
use Rattle.session_rules.specs.declared.Header.{Header}
use Rattle.session_rules.specs.declared.Reading.{Reading}
use Rattle.session_rules.specs.declared.Reading.TheVariants.{Idle, Unreadable, Readable}
use Rattle.session_rules.specs.Transfer.{reading_of}
use Rattle.session_rules.specs.declared.Fate.{Fate}
use Rattle.session_rules.specs.declared.HandOut.{HandOut}
use Rattle.session_rules.specs.Entry.{Entry}
use Rattle.session_rules.specs.declared.Outcome.{Outcome}
use Rattle.session_rules.specs.Call.{Call}
use Rattle.session_rules.specs.Calls.{Offer, refusal, after, taken}
use Rattle.session_rules.specs.Session.{fresh, take_by, take_of}
use Rattle.books.specs.Rule.{Event, idle, unreadable, missing, readable, mark, event_by, events, is_open, Seen, readables, same, ahead, runs, closes, frame_of, stray_of, closed, complete, data_of, first_stamp, last_layer, still_of, fault, verdict, strays, judge, nothing, judged, entry_of, frames_by}
use Rattle.books.specs.Answer.{last_of, last_run, frame_entry, reason_in, ended_in, turned_in, ending_of, goes_on, fate_in, fate_by, with, answer_for, hands, out_of, answer_of}
use Rattle.books.specs.Demands.{EachHeader, EachEntry}
use Rattle.books.specs.HeaderKinds.{OutcomeHas}
use Rattle.books.proofs.History.{map-append}
use Rattle.books.proofs.ByList.{transfer-answers}

pub each_append : (Q : Entry → Type 0) (xs ys : List Entry) → EachEntry Q xs → EachEntry Q ys → EachEntry Q (xs ++ ys)
each_append Q [] ys a b = b
each_append Q (x ∷ xs) ys a b = (a.0, each_append Q xs ys a.1 b)

module _ (P : Header → Type 0) where
  -- ---- from the list to each run and its frame
  abbrev pub EachSeen : List Seen → Type 0
  EachSeen [] = Unit {0}
  EachSeen (t ∷ ts) = P t.header × EachSeen ts

  abbrev EachRun : List (List Seen) → Type 0
  EachRun [] = Unit {0}
  EachRun (r ∷ rs) = EachSeen r × EachRun rs

  readables-each : (b : Bool) (es : List Event) → EachHeader P es → EachSeen (readables b es)
  readables-each b [] f = tt
  readables-each b (idle ∷ es) f = readables-each b es f
  readables-each b (unreadable n ∷ es) f = readables-each true es f
  readables-each b (missing ∷ es) f = readables-each true es f
  readables-each b (readable h d ∷ es) f = (f.0, readables-each false es f.1)
  readables-each b (mark ∷ es) f = readables-each b es f

  ahead-each : (t : Seen) (rs : List (List Seen)) → P t.header → EachRun rs → EachRun (ahead t rs)
  ahead-each t [] e c = ((e, tt), tt)
  ahead-each t ([] ∷ rs) e c = ((e, tt), c.1)
  ahead-each t ((u ∷ us) ∷ rs) e c = go (same t u)
    where
      go : (b : Bool) → EachRun (cond b ((t ∷ u ∷ us) ∷ rs) ((t ∷ []) ∷ (u ∷ us) ∷ rs))
      go true = ((e, c.0), c.1)
      go false = ((e, tt), c)

  runs-each : (ts : List Seen) → EachSeen ts → EachRun (runs ts)
  runs-each [] c = tt
  runs-each (t ∷ ts) c = ahead-each t (runs ts) c.0 (runs-each ts c.1)

  frame-each : (o : Opening) (r : List Seen) → EachSeen r → EachSeen (frame_of o r)
  frame-each o [] c = tt
  frame-each o (t ∷ ts) c = (c.0, go (closes o t) (frame-each o ts c.1))
    where
      go : (b : Bool) → EachSeen (frame_of o ts) → EachSeen (cond b [] (frame_of o ts))
      go true rec = tt
      go false rec = rec

  last-each : (rs : List (List Seen)) → EachRun rs → EachSeen (last_of rs)
  last-each [] c = tt
  last-each (r ∷ []) c = c.0
  last-each (r ∷ (q ∷ rs)) c = last-each (q ∷ rs) c.1

  pub last_frame : (o : Opening) (cs : List Call) → EachHeader P (events o cs) → EachSeen (frame_of o (last_run o cs))
  last_frame o cs f = frame-each o (last_run o cs) (last-each (runs (readables false (events o cs))) (runs-each (readables false (events o cs)) (readables-each false (events o cs) f)))

  -- ---- what the reading of every transfer has, the list has
  pub read-each : (o : Opening) → ((t : List ℕ) (h : Header) → reading_of o t ≡ Readable h → P h) → (cs : List Call) → EachHeader P (events o cs)
  read-each o f [] = tt
  read-each o f (Call.transfer t ∷ cs) = go (reading_of o t) refl (read-each o f cs)
    where
      go : (r : Reading) → reading_of o t ≡ r → EachHeader P (events o cs) → EachHeader P (event_by r t ∷ events o cs)
      go Idle e rec = rec
      go (Unreadable k) e rec = rec
      go (Readable h) e rec = (f t h e, rec)
  read-each o f (Call.lost ∷ cs) = read-each o f cs
  read-each o f (Call.handed ∷ cs) = read-each o f cs
  read-each o f (Call.close ∷ cs) = tt

  -- ---- and what the rule makes of each frame
  module _ (o : Opening) (Q : Entry → Type 0)
      (judges : (way c : Bool) (f : List Seen) → EachSeen f → Q (verdict way c (fault o f) (first_stamp f) (last_layer f) (still_of f) (length (data_of f))))
      (passes : (n : ℕ) → Q (Entry.Stray n)) where
    strays-each : (ts : List Seen) → EachEntry Q (map entry_of (strays ts))
    strays-each [] = tt
    strays-each (t ∷ ts) = (passes (length t.load), strays-each ts)

    judged-each : (p : Bool) (rs : List (List Seen)) → EachRun rs → EachEntry Q (map entry_of (judged o p rs))
    judged-each p [] c = tt
    judged-each p (r ∷ rs) c =
        let f : List Seen = frame_of o r in
        subst (EachEntry Q) (sym (map-append (judge o p (nothing rs) r) (judged o p rs)))
        (each_append Q (map entry_of (judge o p (nothing rs) r)) (map entry_of (judged o p rs))
        (judges (p && nothing rs) (complete o (nothing rs) f) f (frame-each o r c.0), strays-each (stray_of o r)) (judged-each p rs c.1))

    pub frames-each : (cs : List Call) → EachHeader P (events o cs) → EachEntry Q (map entry_of (frames_by o cs))
    frames-each cs f = judged-each (is_open cs) (runs (readables false (events o cs))) (runs-each (readables false (events o cs)) (readables-each false (events o cs) f))

-- ---- the answers: every take's, refused or not, and close's
module _ (o : Opening) (E : Ended → Type 0) (Q : Entry → Type 0) (none : E None) (ends : (e : Entry) → Q e → E (reason_in e)) where
  ended-each : (p l : Bool) (r : List Seen) → Q (frame_entry o p l r) → E (ended_in o p l r)
  ended-each p l [] q = none
  ended-each p l (t ∷ ts) q = go (closed o (frame_of o (t ∷ ts)))
    where
      go : (b : Bool) → E (cond b None (reason_in (frame_entry o p l (t ∷ ts))))
      go true = none
      go false = ends (frame_entry o p l (t ∷ ts)) q

  module _ (frame : (p l : Bool) (cs : List Call) → Q (frame_entry o p l (last_run o cs))) where
    pub close-each : (cs : List Call) → E (ending_of o cs)
    close-each cs = ended-each false true (last_run o cs) (frame false true cs)

    module _ (A : HandOut → Type 0) (B : Fate → Type 0) (out : (cs : List Call) → A (out_of o (last_run o cs))) (fates : (e : Entry) → Q e → B (fate_in e))
        (stray : B Fate.Stray) (idle₀ : B Fate.Idle) (bad : (k : ℕ) → B (Fate.Unreadable k)) where
      answer-each : (cs : List Call) (t : List ℕ) (r : Reading) → E (answer_for r o cs t).ended × B (answer_for r o cs t).fate
      answer-each cs t Idle = (none, idle₀)
      answer-each cs t (Unreadable k) = (none, bad k)
      answer-each cs t (Readable h) = (turned (goes_on h (last_run o cs)), go (stray_of o (last_run o (with cs t))))
        where
          turned : (b : Bool) → E (cond b None (turned_in o (last_run o cs)))
          turned true = none
          turned false = ended-each true false (last_run o cs) (frame true false cs)

          go : (ts : List Seen) → B (fate_by ts (frame_entry o true true (last_run o (with cs t))))
          go [] = fates (frame_entry o true true (last_run o (with cs t))) (frame true true (with cs t))
          go (u ∷ us) = stray

      pub takes-each : (xs : List Offer) (b t : List ℕ) → OutcomeHas A E B (take_of (after (fresh o) xs) (length b) t).outcome
      unfolding take_of
      takes-each xs b t = go (refusal (after (fresh o) xs) (Offer.take b t)) refl
        where
          cs : List Call
          cs = taken (fresh o) xs

          met : (c : Bool) → OutcomeHas A E B (cond c (Outcome.Handed (out_of o (last_run o cs))) (Outcome.Taken (answer_of o cs t)))
          met true = out cs
          met false = answer-each cs t (reading_of o t)

          go : (n : ℕ) → refusal (after (fresh o) xs) (Offer.take b t) ≡ n → OutcomeHas A E B (take_by n (after (fresh o) xs) t).outcome
          go zero e = subst (OutcomeHas A E B) (sym (transfer-answers o xs b t e) ∙ ap (λ (n : ℕ). (take_by n (after (fresh o) xs) t).outcome) e) (met (hands o cs t))
          go (suc k) e = tt
