-- Handed out exactly when the list says so; and with D1 set never.
use Rattle.std.specs.Prelude.{None, Some}
use Rattle.session_rules.specs.Options.{Fault}
use Prim.Native.Nat.{ℕ}
use mathlib.Core.Path.{◌≡◌, refl, sym, ◌∙◌, ap, subst}
use mathlib.Core.Bool.{Bool, true, false, cond, not, ◌&&◌, ◌||◌, true≢false}
use mathlib.Core.List.{List, [], ◌∷◌, ◌++◌}
use mathlib.Core.Logic.{◌↔◌}
use native.Mathlib.Omega.{arith}
use lib.ListN.{length}
use lib.Dec.{eqb}
use borrow.Author.Tests.{eq-eqb, ne_eqb}
use Rattle.sizes.specs.declared.Opening.{Opening}
use Rattle.sizes.specs.Framing.{by_eof}
use Rattle.session_rules.specs.declared.Header.{Header}
use Rattle.session_rules.specs.declared.Reading.{Reading}
use Rattle.session_rules.specs.declared.Reading.TheVariants.{Idle, Unreadable, Readable}
use Rattle.session_rules.specs.Transfer.{reading_of}
use Rattle.session_rules.specs.declared.Answer.{Answer}
use Rattle.session_rules.specs.declared.HandOut.{HandOut}
use Rattle.session_rules.specs.declared.Phase.{Phase}
use Rattle.session_rules.specs.declared.Phase.TheVariants.{Fresh, Under, Past}
use Rattle.session_rules.specs.Turns.{hands_by, hands_of, out_by}
use Rattle.session_rules.specs.Turns as track
use Rattle.session_rules.specs.declared.Session.{Session}
use Rattle.session_rules.specs.declared.Outcome.{Outcome}
use Rattle.session_rules.specs.Session.{fresh, hands_out, handed_of, take_of}
use Rattle.session_rules.specs.Session as session
use Rattle.session_rules.specs.Refusals.{record_broken, take_rows}
use Rattle.rules.specs.Numbered.{NoneOf}
use Rattle.rules.proofs.Rows.{row-none}
use Rattle.session_rules.specs.Call.{Ask, Call, heard_of}
use Rattle.session_rules.specs.Calls.{Offer, refusal, next, after, call_of, taken, next_call, offer_with}
use Rattle.books.specs.Rule.{Event, idle, unreadable, missing, readable, mark, event_by, events, Seen, marks, readables, frame_of, closed, data_of, fault}
use Rattle.books.specs.Answer.{last_run, turns, is_sound, hands_in, hands_for, hands, out_of}
use Rattle.books.specs.Answer as rule
use Rattle.books.specs.HandedOut.{HandsOut, Unmarked, ByEof, EofFraming}
use Rattle.books.proofs.Owed.{and_both}
use Rattle.books.proofs.Taken.{Proper, next-met, next-taken, listed}
use Rattle.books.proofs.History.{next-opening}
use Rattle.books.proofs.Answers.{handed-answer, heard-more}
use Rattle.books.proofs.ByList.{hands-as, transfer-answers}

-- ---- the rule's test, and what it says
sound-is : (q : Fault) → is_sound q ≡ true → q ≡ None
sound-is None e = refl
sound-is (Some w) e = absurd (true≢false (sym e))

not-true : (b : Bool) → not b ≡ true → b ≡ false
not-true true e = sym e
not-true false e = refl

is-sound : (q : Fault) → q ≡ None → is_sound q ≡ true
is-sound q e = rw e

module _ (o : Opening) (cs : List Call) (t : List ℕ) where
  abbrev r : List Seen
  r = last_run o cs

  parts_in : (h : Header) → reading_of o t ≡ Readable h → hands_in o h r ≡ true → HandsOut o cs t (out_of o r)
  parts_in h q e =
      let a = and_both (not (by_eof o)) _ e in
      let b = and_both (turns h r) _ a.1 in
      let c = and_both (not (closed o r)) _ b.1 in
      let d = and_both (is_sound (fault o (frame_of o r))) _ c.1 in
      record {
        framing = not-true (by_eof o) a.0;
        header = h;
        reads = q;
        other = b.0;
        unmarked = not-true (closed o r) c.0;
        sound = sound-is (fault o (frame_of o r)) d.0;
        some = λ z. true≢false (sym d.1 ∙ ap not (eq-eqb (length (data_of (frame_of o r))) 0 z));
        frame = refl;
      }

  parts : (x : Reading) → reading_of o t ≡ x → hands_for x o cs ≡ true → HandsOut o cs t (out_of o r)
  parts Idle q e = absurd (true≢false (sym e))
  parts (Unreadable k) q e = absurd (true≢false (sym e))
  parts (Readable h) q e = parts_in h q e

  pub hands-parts : hands o cs t ≡ true → HandsOut o cs t (out_of o r)
  hands-parts e = parts (reading_of o t) refl e

  four : (a b c : Bool) (q : Fault) (k : Bool) → a ≡ false → b ≡ true → c ≡ false → q ≡ None → k ≡ false → (not a && (b && (not c && (is_sound q && not k)))) ≡ true
  four a b c q k e f g h i = rw (e, f, g, h, i)

  hands-all : (x : HandOut) → HandsOut o cs t x → hands o cs t ≡ true
  hands-all x p =
      ap (λ (z : Reading). hands_for z o cs) p.reads
      ∙ four (by_eof o) (turns p.header r) (closed o r) (fault o (frame_of o r)) (eqb (length (data_of (frame_of o r))) 0) p.framing p.other p.unmarked p.sound
      (ne_eqb (length (data_of (frame_of o r))) 0 p.some)

same-frame : (x y : HandOut) → Outcome.Handed x ≡ Outcome.Handed y → x ≡ y
same-frame x y e = cc

pub handed_out_lem : (o : Opening) (xs : List Offer) (b t : List ℕ) (x : HandOut) → refusal (after (fresh o) xs) (Offer.take b t) ≡ 0
    → ((take_of (after (fresh o) xs) (length b) t).outcome ≡ Outcome.Handed x) ↔ HandsOut o (taken (fresh o) xs) t x
handed_out_lem o xs b t x ok = (to, from)
  where
    cs : List Call
    cs = taken (fresh o) xs

    not_taken : (a : Answer) → Outcome.Taken a ≡ Outcome.Handed x → ⊥
    not_taken a e = let z : ◌≡◌ {A = ℕ} 0 1 = cc in omega arith

    go : (c : Bool) → hands o cs t ≡ c → cond c (Outcome.Handed (out_of o (last_run o cs))) (Outcome.Taken (rule.answer_of o cs t)) ≡ Outcome.Handed x → HandsOut o cs t x
    go true h e = subst (HandsOut o cs t) (same-frame _ x e) (hands-parts o cs t h)
    go false h e = absurd (not_taken _ e)

    to : (take_of (after (fresh o) xs) (length b) t).outcome ≡ Outcome.Handed x → HandsOut o cs t x
    to e = go (hands o cs t) refl (sym (transfer-answers o xs b t ok) ∙ e)

    from : HandsOut o cs t x → (take_of (after (fresh o) xs) (length b) t).outcome ≡ Outcome.Handed x
    from p =
        transfer-answers o xs b t ok
        ∙ ap (λ (c : Bool). cond c (Outcome.Handed (out_of o (last_run o cs))) (Outcome.Taken (rule.answer_of o cs t))) (hands-all o cs t x p)
        ∙ ap Outcome.Handed (sym p.frame)

-- ---- two hand-outs never follow each other, whatever the record
out_none : (ph : Phase) (b : Bool) (o : Opening) (h : Header) → hands_by (out_by ph b).track.phase o h ≡ false
out_none Fresh b o h = refl
out_none (Past f) b o h = refl
out_none (Under x) b o h = refl

passed-by : (s : Session) (t : List ℕ) → hands_out (next_call s Call.handed) t ≡ false
unfolding hands_out hands_of handed_of track.out_of
passed-by s t = go (reading_of s.rest.opening t)
  where
    go : (r : Reading) → session.hands_for r (next_call s Call.handed) ≡ false
    go Idle = refl
    go (Unreadable k) = refl
    go (Readable h) = out_none s.rest.track.phase s.rest.track.gap s.rest.opening h

pub never-twice : (s : Session) (b t c u : List ℕ) (x y : HandOut) → (take_of s (length b) t).outcome ≡ Outcome.Handed x
    → (take_of (take_of s (length b) t).session (length c) u).outcome ≡ Outcome.Handed y → ⊥
never-twice s b t c u x y e f =
    let p = handed-answer s b t x e in
    let n : next s (Offer.take b t) ≡ next_call s Call.handed = next-met s b t true p.ok p.hands in
    let q = handed-answer (next_call s Call.handed) c u y (ap (λ (r : Session). (take_of r (length c) u).outcome) (sym n) ∙ f) in
    true≢false (sym q.hands ∙ passed-by s u)

-- ---- D1 set
hands_none : (ph : Phase) (o : Opening) (h : Header) → by_eof o ≡ true → hands_by ph o h ≡ false
hands_none Fresh o h e = refl
hands_none (Past f) o h e = refl
hands_none (Under x) o h e = rw e

pub never-handed : (s : Session) (t : List ℕ) → by_eof s.rest.opening ≡ true → hands_out s t ≡ false
unfolding hands_out hands_of
never-handed s t e = go (reading_of s.rest.opening t)
  where
    go : (r : Reading) → session.hands_for r s ≡ false
    go Idle = refl
    go (Unreadable k) = refl
    go (Readable h) = hands_none s.rest.track.phase s.rest.opening h e

unmarked : (cs : List Call) (s : Session) → by_eof s.rest.opening ≡ true → Proper s cs → Unmarked cs
unmarked [] s e p = tt
unmarked (Call.transfer t ∷ cs) s e p = unmarked cs (next_call s (Call.transfer t)) (ap by_eof (next-opening s (Call.transfer t)) ∙ e) p.1
unmarked (Call.lost ∷ cs) s e p = unmarked cs (next_call s Call.lost) e p
unmarked (Call.handed ∷ cs) s e p = let h = p.0 in true≢false (sym h.1 ∙ never-handed s h.0 e)
unmarked (Call.close ∷ []) s e p = tt
unmarked (Call.close ∷ (c ∷ cs)) s e p = absurd p

abbrev Plain : List Event → Type 0
Plain [] = Unit {0}
Plain (idle ∷ es) = Plain es
Plain (unreadable n ∷ es) = Plain es
Plain (missing ∷ es) = Plain es
Plain (readable h d ∷ es) = Plain es
Plain (mark ∷ es) = ⊥

event-plain : (t : List ℕ) (es : List Event) (r : Reading) → Plain es → Plain (event_by r t ∷ es)
event-plain t es Idle p = p
event-plain t es (Unreadable k) p = p
event-plain t es (Readable h) p = p

events-plain : (o : Opening) (cs : List Call) → Unmarked cs → Plain (events o cs)
events-plain o [] u = tt
events-plain o (Call.transfer t ∷ cs) u = event-plain t (events o cs) (reading_of o t) (events-plain o cs u)
events-plain o (Call.lost ∷ cs) u = events-plain o cs u
events-plain o (Call.handed ∷ cs) u = absurd u
events-plain o (Call.close ∷ cs) u = tt

no-marks : (es : List Event) → Plain es → marks es ≡ false
no-marks [] p = refl
no-marks (idle ∷ es) p = no-marks es p
no-marks (unreadable n ∷ es) p = no-marks es p
no-marks (missing ∷ es) p = no-marks es p
no-marks (readable h d ∷ es) p = refl
no-marks (mark ∷ es) p = absurd p

eof-alone : (c e m : Bool) → c ≡ true → m ≡ false → ((c && e) || m) ≡ e
eof-alone c true m p q = rw p
eof-alone c false m p q = rw (p, q)

by-eof : (o : Opening) → by_eof o ≡ true → (b : Bool) (es : List Event) → Plain es → ByEof o (readables b es)
by-eof o e b [] p = tt
by-eof o e b (idle ∷ es) p = by-eof o e b es p
by-eof o e b (unreadable n ∷ es) p = by-eof o e true es p
by-eof o e b (missing ∷ es) p = by-eof o e true es p
by-eof o e b (readable h d ∷ es) p = (eof-alone (by_eof o) h.eof (marks es) e (no-marks es p), by-eof o e false es p)
by-eof o e b (mark ∷ es) p = absurd p

ending : (c b l : Bool) → c ≡ true → (b || (not c && not l)) ≡ b
ending c true l e = refl
ending c false l e = rw e

pub by-eof-alone : (o : Opening) (cs : List Call) → by_eof o ≡ true → Proper (fresh o) cs → EofFraming o cs
by-eof-alone o cs e p =
    let u = unmarked cs (fresh o) e p in
    record {
      none = u;
      closing = by-eof o e false (events o cs) (events-plain o cs u);
      ending = λ l ts. ending (by_eof o) (closed o ts) l e;
      gaps = λ t. ap (λ (c : Bool). not (c && t.header.eof) && t.after) e;
    }

-- ---- offered again: the same transfer, with the same buffer, is taken
module _ (o : Opening) (xs : List Offer) (b t : List ℕ) (x : HandOut) (e : (take_of (after (fresh o) xs) (length b) t).outcome ≡ Outcome.Handed x) where
  abbrev s : Session
  s = after (fresh o) xs

  abbrev again-offers : List Offer
  again-offers = xs ++ (Offer.take b t ∷ [])

  abbrev then : Session
  then = after (fresh o) again-offers

  after_one : (ys : List Offer) (r : Session) → after r (ys ++ (Offer.take b t ∷ [])) ≡ next (after r ys) (Offer.take b t)
  after_one [] r = refl
  after_one (y ∷ ys) r = after_one ys (next r y)

  -- only the track and the ledger are others
  next-is : then ≡ next_call s Call.handed
  next-is = let p = handed-answer s b t x e in after_one xs (fresh o) ∙ next-met s b t true p.ok p.hands

  refuses-as : record_broken (next_call s Call.handed) ≡ false → refusal (next_call s Call.handed) (Offer.take b t) ≡ 0
  unfolding handed_of
  refuses-as n =
      let d : NoneOf (take_rows s (length b) (length t)) = row-none (take_rows s (length b) (length t)) (omega arith, (omega arith, (omega arith, (omega arith, (omega arith, tt))))) (handed-answer s b t x e).ok in
      rw (n, d.1.0, d.1.1.0, d.1.1.1.0, d.1.1.1.1.0)

  pub again : record_broken then ≡ false → (take_of then (length b) t).outcome ≡ Outcome.Taken (rule.answer_of o (taken (fresh o) xs ++ (Call.handed ∷ [])) t)
  again n =
      let p = handed-answer s b t x e in
      let ok : refusal then (Offer.take b t) ≡ 0 = rw next-is (refuses-as (rw next-is at n)) in
      let cs : List Call = taken (fresh o) again-offers in
      let listed₀ : cs ≡ taken (fresh o) xs ++ (Call.handed ∷ []) = heard-more o xs (Offer.take b t) Call.handed p.ok (listed s b t true p.ok p.hands) in
      let none : hands o cs t ≡ false = sym (hands-as o again-offers b t ok) ∙ rw next-is (passed-by s t) in
      transfer-answers o again-offers b t ok
      ∙ ap (λ (c : Bool). cond c (Outcome.Handed (out_of o (last_run o cs))) (Outcome.Taken (rule.answer_of o cs t))) none
      ∙ ap (λ (l : List Call). Outcome.Taken (rule.answer_of o l t)) listed₀

-- ---- with D1 set each call that is taken stands in the list as it was asked
pub asked-listed : (s : Session) (b : List ℕ) (a : Ask) → by_eof s.rest.opening ≡ true → refusal s (offer_with b a) ≡ 0 → call_of s (offer_with b a) ≡ heard_of a
asked-listed s b (Ask.transfer t) e ok = listed s b t false ok (never-handed s t e)
asked-listed s b Ask.lost e ok = refl
asked-listed s b Ask.close e ok = refl

pub asked-next : (s : Session) (b : List ℕ) (a : Ask) → by_eof s.rest.opening ≡ true → refusal s (offer_with b a) ≡ 0 → next s (offer_with b a) ≡ next_call s (heard_of a)
asked-next s b a e ok = next-taken s (offer_with b a) ok ∙ ap (next_call s) (asked-listed s b a e ok)
