-- Each answer is the rule's: what a call says of an ended frame and of its own transfer is what the rule gains by that call.
use Rattle.std.specs.Prelude.{Err, Ok}
use Rattle.session_rules.specs.Options.{Ended, Report, Closing}
use Prim.Native.Nat.{ℕ, zero, suc, ◌-◌}
use mathlib.Core.Path.{◌≡◌, refl, sym, ◌∙◌, ap, subst}
use mathlib.Core.Bool.{Bool, true, false}
use mathlib.Core.List.{List, [], ◌∷◌, ◌++◌, append_assoc, append-nil}
use native.Mathlib.Omega.{arith}
use lib.ListN.{length}
use Rattle.rules.specs.Numbered.{first_row}
use Rattle.sizes.specs.declared.Opening.{Opening}
use Rattle.session_rules.specs.declared.Reading.{Reading}
use Rattle.session_rules.specs.declared.Reading.TheVariants.{Idle, Unreadable, Readable}
use Rattle.session_rules.specs.Transfer.{reading_of}
use Rattle.session_rules.specs.declared.Phase.{Phase}
use Rattle.session_rules.specs.declared.Phase.TheVariants.{Fresh, Under, Past}
use Rattle.session_rules.specs.declared.Fate.{Fate}
use Rattle.session_rules.specs.declared.Answer.{Answer}
use Rattle.session_rules.specs.declared.Turn.{Turn}
use Rattle.session_rules.specs.declared.HandOut.{HandOut}
use Rattle.session_rules.specs.Track.{handing}
use Rattle.session_rules.specs.declared.Session.{Session}
use Rattle.session_rules.specs.declared.Outcome.{Outcome}
use Rattle.session_rules.specs.Refusals.{take_rows, lost_rows, close_rows}
use Rattle.session_rules.specs.Session.{fresh, plainly, read_of, took_by, took_of, hands_out, handed_of, met_by, take_by, take_of, lost_by, lost_of, close_by, close_of}
use Rattle.books.specs.Rule.{Item, frames_by}
use Rattle.books.specs.Demands.{ended_items, fate_items, UnderWay, Gains, Says}
use Rattle.books.specs.Demands
use Rattle.books.proofs.Taken.{after_run, listed, taken-proper, Proper}
use Rattle.books.proofs.History.{items_by, data_by, call_items, data_next, items, data_run, afoot}
use Rattle.books.proofs.Accounts.{frames-made}
use Rattle.session_rules.specs.Turns.{turn_of, out_by, out_of, closed_of}
use Rattle.session_rules.specs.Call.{Call}
use Rattle.session_rules.proofs.Refused.{took-taken}
use Rattle.session_rules.specs.Calls.{Offer, refusal, next, after, call_of, unless, taken, next_call, run}

-- ---- one call more
abbrev pub and : List Call → Call → List Call
and cs c = cs ++ (c ∷ [])

pub run_more : (cs : List Call) (c : Call) (s : Session) → run s (and cs c) ≡ next_call (run s cs) c
run_more [] c s = refl
run_more (x ∷ cs) c s = run_more cs c (next_call s x)

pub data-more : (cs : List Call) (c : Call) (s : Session) (D : List ℕ) → data_run s D (and cs c) ≡ data_next (run s cs) (data_run s D cs) c
data-more [] c s D = refl
data-more (x ∷ cs) c s D = data-more cs c (next_call s x) (data_next s D x)

pub items_more : (cs : List Call) (c : Call) (s : Session) (D : List ℕ) → items s D (and cs c) ≡ items s D cs ++ call_items (run s cs) (data_run s D cs) c
items_more [] c s D = append-nil _
items_more (x ∷ cs) c s D =
    ap (call_items s D x ++◌) (items_more cs c (next_call s x) (data_next s D x)) ∙ sym (append_assoc (call_items s D x) (items (next_call s x) (data_next s D x) cs) _)

pub taken_more : (xs : List Offer) (x : Offer) (s : Session) → taken s (xs ++ (x ∷ [])) ≡ taken s xs ++ unless (refusal (after s xs) x) (call_of (after s xs) x) []
taken_more [] x s = refl
taken_more (y ∷ xs) x s = go (refusal s y) (taken_more xs x (next s y))
  where
    go : (k : ℕ) → taken (next s y) (xs ++ (x ∷ [])) ≡ taken (next s y) xs ++ unless (refusal (after (next s y) xs) x) (call_of (after (next s y) xs) x) []
        → unless k (call_of s y) (taken (next s y) (xs ++ (x ∷ []))) ≡ unless k (call_of s y) (taken (next s y) xs) ++ unless (refusal (after (next s y) xs) x) (call_of (after (next s y) xs) x) []
    go zero e = ap (call_of s y ∷◌) e
    go (suc k) e = e

pub afoot-way : (ph : Phase) (D : List ℕ) → UnderWay (afoot ph D)
afoot-way Fresh D = Demands.none
afoot-way (Past f) D = Demands.none
afoot-way (Under x) D = Demands.one x.bytes D

module _ (o : Opening) (xs : List Offer) (x : Offer) (c : Call) (ok : refusal (after (fresh o) xs) x ≡ 0) (is-listed : call_of (after (fresh o) xs) x ≡ c) where
  abbrev pub heard : List Call
  heard = taken (fresh o) xs

  abbrev here : Session
  here = run (fresh o) heard

  abbrev data₀ : List ℕ
  data₀ = data_run (fresh o) [] heard

  pub heard-proper : Proper (fresh o) heard
  heard-proper = taken-proper (fresh o) xs

  -- the list with the call, or the mark
  pub heard-more : taken (fresh o) (xs ++ (x ∷ [])) ≡ and heard c
  heard-more = taken_more xs x (fresh o) ∙ ap (λ (k : ℕ). heard ++ unless k (call_of (after (fresh o) xs) x) []) ok ∙ ap (and heard) is-listed

  pub more-proper : Proper (fresh o) (and heard c)
  more-proper = subst (Proper (fresh o)) heard-more (taken-proper (fresh o) (xs ++ (x ∷ [])))

  -- what the rule has after the call
  pub frames-more : frames_by o (and heard c) ≡ (items (fresh o) [] heard ++ call_items here data₀ c) ++ afoot (next_call here c).rest.track.phase (data_next here data₀ c)
  frames-more =
      frames-made o (and heard c) more-proper
      ∙ ap (λ (l : List Item). l ++ afoot (run (fresh o) (and heard c)).rest.track.phase (data_run (fresh o) [] (and heard c))) (items_more heard c (fresh o) [])
      ∙ ap (λ (s : Session). (items (fresh o) [] heard ++ call_items here data₀ c) ++ afoot s.rest.track.phase (data_run (fresh o) [] (and heard c))) (run_more heard c (fresh o))
      ∙ ap (λ (d : List ℕ). (items (fresh o) [] heard ++ call_items here data₀ c) ++ afoot (next_call here c).rest.track.phase d) (data-more heard c (fresh o) [])

  gained : (says : List Item) → call_items here data₀ c ≡ says → Gains o heard c says
  gained says e = record {
    settled = items (fresh o) [] heard;
    was = afoot here.rest.track.phase data₀;
    is = afoot (next_call here c).rest.track.phase (data_next here data₀ c);
    before = frames-made o heard heard-proper;
    now = frames-more ∙ ap (λ (l : List Item). (items (fresh o) [] heard ++ l) ++ afoot (next_call here c).rest.track.phase (data_next here data₀ c)) e;
    was-way = afoot-way here.rest.track.phase data₀;
    is-way = afoot-way (next_call here c).rest.track.phase (data_next here data₀ c);
  }

-- ---- the answer to a transfer
abbrev pub answer_by : Reading → Session → List ℕ → Answer
answer_by Idle s t = plainly Fate.Idle
answer_by (Unreadable k) s t = plainly (Fate.Unreadable k)
answer_by (Readable h) s t = (turn_of s.rest.opening s.rest.track h (length t - h.len)).answer

pub took-answer : (s : Session) (t : List ℕ) (r : Reading) → (took_by r s t).outcome ≡ Outcome.Taken (answer_by r s t)
unfolding read_of
took-answer s t Idle = refl
took-answer s t (Unreadable k) = refl
took-answer s t (Readable h) = refl

not_taken : (k : ℕ) (a : Answer) → Outcome.Refused k ≡ Outcome.Taken a → ⊥
not_taken k a e = let z : ◌≡◌ {A = ℕ} 0 1 = cc in omega arith

not-handed : (x : HandOut) (a : Answer) → Outcome.Handed x ≡ Outcome.Taken a → ⊥
not-handed x a e = let z : ◌≡◌ {A = ℕ} 0 1 = cc in omega arith

pub same_answer : (a b : Answer) → Outcome.Taken a ≡ Outcome.Taken b → a ≡ b
same_answer a b e = cc

-- an answer says that the call was taken, and what became of the reading
pub record TakenSo (s : Session) (b t : List ℕ) (a : Answer) : Type 0 where
  pub ok : refusal s (Offer.take b t) ≡ 0
  pub kept : hands_out s t ≡ false
  pub answer : answer_by (reading_of s.rest.opening t) s t ≡ a

pub taken-answer : (s : Session) (b t : List ℕ) (a : Answer) → (take_of s (length b) t).outcome ≡ Outcome.Taken a → TakenSo s b t a
unfolding take_of took_of handed_of
taken-answer s b t a e = go (first_row (take_rows s (length b) (length t))) refl (hands_out s t) refl e
  where
    go : (k : ℕ) → refusal s (Offer.take b t) ≡ k → (c : Bool) → hands_out s t ≡ c → (take_by k s t).outcome ≡ Outcome.Taken a → TakenSo s b t a
    go (suc k) r c h q = absurd (not_taken (suc k) a q)
    go zero r c h q = met c h (ap (λ (d : Bool). (met_by d s t).outcome) (sym h) ∙ q)
      where
        met : (c : Bool) → hands_out s t ≡ c → (met_by c s t).outcome ≡ Outcome.Taken a → TakenSo s b t a
        met true h f = absurd (not-handed _ a f)
        met false h f = record { ok = r; kept = h; answer = same_answer _ _ (sym (took-answer s t (reading_of s.rest.opening t)) ∙ f) }

pub record Spoken (s : Session) (D t : List ℕ) (r : Reading) (a : Answer) : Type 0 where
  pub n : ℕ
  pub m : ℕ
  pub d : List ℕ
  pub e : List ℕ
  pub as-said : items_by r s D t ≡ ended_items a.ended n d ++ fate_items a.fate m e

spoken : (s : Session) (D t : List ℕ) (r : Reading) → Spoken s D t r (answer_by r s t)
spoken s D t Idle = record { n = 0; m = 0; d = []; e = []; as-said = refl }
spoken s D t (Unreadable k) = record { n = 0; m = 0; d = []; e = []; as-said = refl }
spoken s D t (Readable h) =
    let T : Turn = turn_of s.rest.opening s.rest.track h (length t - h.len) in
    record { n = T.gone; m = T.bytes; d = D; e = data_by (Readable h) s D t; as-said = refl }

pub transfer-says : (o : Opening) (xs : List Offer) (b t : List ℕ) (a : Answer) → (take_of (after (fresh o) xs) (length b) t).outcome ≡ Outcome.Taken a → Says o (taken (fresh o) xs) (Call.transfer t) a
transfer-says o xs b t a e =
    let s : Session = run (fresh o) (taken (fresh o) xs) in
    let D : List ℕ = data_run (fresh o) [] (taken (fresh o) xs) in
    let f = taken-answer (after (fresh o) xs) b t a e in
    let as_call : call_of (after (fresh o) xs) (Offer.take b t) ≡ Call.transfer t = listed (after (fresh o) xs) b t false f.ok f.kept in
    let g : answer_by (reading_of s.rest.opening t) s t ≡ a = subst (λ (q : Session). answer_by (reading_of q.rest.opening t) q t ≡ a) (after_run (fresh o) xs) f.answer in
    let w : Spoken s D t (reading_of s.rest.opening t) a = subst (Spoken s D t (reading_of s.rest.opening t)) g (spoken s D t (reading_of s.rest.opening t)) in
    record { n = w.n; m = w.m; d = w.d; e = w.e; gains = gained o xs (Offer.take b t) (Call.transfer t) f.ok as_call (ended_items a.ended w.n w.d ++ fate_items a.fate w.m w.e) w.as-said }

-- ---- a hand-out says the frame that is handed out
not-refused : (k : ℕ) (x : HandOut) → Outcome.Refused k ≡ Outcome.Handed x → ⊥
not-refused k x e = let z : ◌≡◌ {A = ℕ} 0 1 = cc in omega arith

pub record HandedSo (s : Session) (b t : List ℕ) (x : HandOut) : Type 0 where
  pub ok : refusal s (Offer.take b t) ≡ 0
  pub hands : hands_out s t ≡ true
  pub frame : (out_of s.rest.track).frame ≡ x

pub handed-answer : (s : Session) (b t : List ℕ) (x : HandOut) → (take_of s (length b) t).outcome ≡ Outcome.Handed x → HandedSo s b t x
unfolding take_of handed_of
handed-answer s b t x e = go (first_row (take_rows s (length b) (length t))) refl e
  where
    met : (c : Bool) → hands_out s t ≡ c → refusal s (Offer.take b t) ≡ 0 → (met_by c s t).outcome ≡ Outcome.Handed x → HandedSo s b t x
    met true h r f = record { ok = r; hands = h; frame = cc }
    met false h r f = absurd (not-handed x _ (sym f ∙ (took-taken s t).1))

    go : (k : ℕ) → refusal s (Offer.take b t) ≡ k → (take_by k s t).outcome ≡ Outcome.Handed x → HandedSo s b t x
    go (suc k) r q = absurd (not-refused (suc k) x q)
    go zero r q = met (hands_out s t) refl r q

out-same : (ph : Phase) (b : Bool) → (out_by ph false).frame ≡ (out_by ph b).frame
out-same Fresh b = refl
out-same (Past f) b = refl
out-same (Under x) b = refl

pub handed-says : (o : Opening) (xs : List Offer) (b t : List ℕ) (x : HandOut) → (take_of (after (fresh o) xs) (length b) t).outcome ≡ Outcome.Handed x
    → (d : List ℕ) × Gains o (taken (fresh o) xs) Call.handed (fate_items (handing x.still x.delivery) x.delivery.len d)
unfolding out_of
handed-says o xs b t x e =
    let s : Session = after (fresh o) xs in
    let f = handed-answer s b t x e in
    let D : List ℕ = data_run (fresh o) [] (taken (fresh o) xs) in
    let as_call : call_of s (Offer.take b t) ≡ Call.handed = listed s b t true f.ok f.hands in
    let g : (out_by (run (fresh o) (taken (fresh o) xs)).rest.track.phase false).frame ≡ x =
    ap (λ (r : Session). (out_by r.rest.track.phase false).frame) (sym (after_run (fresh o) xs)) ∙ out-same s.rest.track.phase s.rest.track.gap ∙ f.frame in (
      D,
      gained o xs (Offer.take b t) Call.handed f.ok as_call (fate_items (handing x.still x.delivery) x.delivery.len D)
          (ap (λ (y : HandOut). fate_items (handing y.still y.delivery) y.delivery.len D) g),
    )

-- ---- a lost report answers none
not_noted : (k : ℕ) → ◌≡◌ {A = Report} (Err k) (Ok tt) → ⊥
not_noted k e = let z : ◌≡◌ {A = ℕ} 0 1 = cc in omega arith

pub lost-says : (o : Opening) (xs : List Offer) → (lost_of (after (fresh o) xs)).report ≡ Ok tt → Gains o (taken (fresh o) xs) Call.lost []
unfolding lost_of
lost-says o xs e = gained o xs Offer.lost Call.lost (go (first_row (lost_rows (after (fresh o) xs))) e) refl [] refl
  where
    go : (k : ℕ) → (lost_by k (after (fresh o) xs)).report ≡ Ok tt → k ≡ 0
    go zero q = refl
    go (suc k) q = absurd (not_noted (suc k) q)

-- ---- close answers the frame's reason, or none
not-closed : (k : ℕ) (e : Ended) → ◌≡◌ {A = Closing} (Err k) (Ok e) → ⊥
not-closed k e q = let z : ◌≡◌ {A = ℕ} 0 1 = cc in omega arith

same_end : (a b : Ended) → ◌≡◌ {A = Closing} (Ok a) (Ok b) → a ≡ b
same_end a b e = cc

pub close-says : (o : Opening) (xs : List Offer) (e : Ended) → (close_of (after (fresh o) xs)).closing ≡ Ok e
    → (n : ℕ) × (d : List ℕ) × Gains o (taken (fresh o) xs) Call.close (ended_items e n d)
unfolding close_of
close-says o xs e q =
    let s : Session = run (fresh o) (taken (fresh o) xs) in
    let D : List ℕ = data_run (fresh o) [] (taken (fresh o) xs) in
    let f = go (first_row (close_rows (after (fresh o) xs))) q in
    let g : (closed_of s.rest.track).ended ≡ e = subst (λ (r : Session). (closed_of r.rest.track).ended ≡ e) (after_run (fresh o) xs) f.1 in
    ((closed_of s.rest.track).gone, D, gained o xs Offer.close Call.close f.0 refl (ended_items e (closed_of s.rest.track).gone D) (ap (λ (x : Ended). ended_items x (closed_of s.rest.track).gone D) g))
  where
    go : (k : ℕ) → (close_by k (after (fresh o) xs)).closing ≡ Ok e → (k ≡ 0) × ((closed_of (after (fresh o) xs).rest.track).ended ≡ e)
    go zero r = (refl, same_end _ _ r)
    go (suc k) r = absurd (not-closed (suc k) e r)
