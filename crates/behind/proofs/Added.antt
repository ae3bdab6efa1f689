-- What the calls add, from the list: the frames that begin in them are those of the list that starts with their first transfer, whatever came before.
use Rattle.std.specs.Prelude.{None, Some}
use Rattle.session_rules.specs.Options.{Ended}
use Prim.Native.Nat.{ℕ, zero, suc, ◌+◌}
use mathlib.Core.Path.{◌≡◌, refl, sym, ap, subst, ◌∙◌}
use mathlib.Core.Bool.{Bool, true, false, true≢false}
use mathlib.Core.List.{List, [], ◌∷◌, ◌++◌, map, append_assoc, append-nil}
use native.Mathlib.Omega.{arith}
use Rattle.sizes.specs.declared.Opening.{Opening}
use Rattle.session_rules.specs.declared.Header.{Header}
use Rattle.session_rules.specs.declared.Reading.TheVariants.{Readable}
use Rattle.session_rules.specs.Transfer.{reading_of}
use Rattle.session_rules.specs.declared.Phase.{Phase}
use Rattle.session_rules.specs.declared.Phase.TheVariants.{Fresh, Under, Past}
use Rattle.session_rules.specs.declared.Delivery.{Delivery}
use Rattle.session_rules.specs.declared.Answer.{Answer}
use Rattle.session_rules.specs.Track.{handing}
use Rattle.session_rules.specs.Turns.{out_by, out_of}
use Rattle.session_rules.specs.declared.Ledger.{Ledger}
use Rattle.session_rules.specs.Entry.{Entry}
use Rattle.session_rules.specs.Accounts.{place_of}
use Rattle.session_rules.specs.declared.Session.{Session}
use Rattle.session_rules.specs.declared.Outcome.{Outcome}
use Rattle.session_rules.specs.Session.{fresh, handed_of}
use Rattle.session_rules.specs.Call.{Ask, Call}
use Rattle.session_rules.specs.Calls.{Offer, refusal, next, after, call_by, call_of, unless, taken, run, offers, offer_with}
use Rattle.books.specs.Rule.{Event, idle, unreadable, missing, readable, mark, event_by, events, is_open, Item, entry_of, frames_by, loose, entries, lost_line, idle_line, one_in, part_in, total, stamps, untimed, forward, back, between}
use Rattle.books.specs.Demands.{Right, UnderWay, ended_items, fate_items}
use Rattle.books.specs.LastReadable.{LastFid, none, last_fid, spoilt_since, Other}
use Rattle.books.specs.Alike.{OpenedAlike, At, onward, NoneRefused, Said, said_of, Heard, Same}
use Rattle.books.proofs.Taken.{Proper}
use Rattle.books.proofs.Posts.{total-append}
use Rattle.books.proofs.Owed.{out_items}
use Rattle.books.proofs.History.{items, data_run, afoot, map-append, stamps-append}
use Rattle.books.proofs.Accounts.{frames-made, loose-stamped}
use Rattle.books.proofs.Answers.{afoot-way}
use Rattle.books.proofs.Openings.{reads-alike}
use Rattle.books.proofs.Alike.{Alike, items_alike, data-alike, run-alike, run-append, items-append}
use Rattle.books.proofs.Alongside.{alongside}
use Rattle.books.proofs.Begins.{NotUnder, begun, proper-open, earlier, proper-later, frames-from}
use Rattle.behind.specs.Behind.{ready_by, ready, again_by, calls}
use Rattle.behind.specs.Behind as specs
use Rattle.behind.specs.Added.{AtMostOne, Adds, Grows, steps_by, Grown}
use Rattle.behind.specs.Added as added

-- ---- how the calls stand in the list
abbrev pub listed_from : At → List Ask → List Call
listed_from x ks = taken x.session (offers x.session x.buffer ks)

abbrev pub outcome_in : Said → Outcome
outcome_in (Said.took v) = v
outcome_in (Said.noted v) = Outcome.Refused 0
outcome_in (Said.shut v) = Outcome.Refused 0

-- of two sessions that are the same from here on they stand alike
called-alike : (x y : At) (k : Ask) → said_of x k ≡ said_of y k → call_of x.session (offer_with x.buffer k) ≡ call_of y.session (offer_with y.buffer k)
called-alike x y (Ask.transfer t) e = ap (λ (v : Said). call_by (outcome_in v) t) e
called-alike x y Ask.lost e = refl
called-alike x y Ask.close e = refl

pub listed-alike : (x y : At) (ks : List Ask) → Same x y → NoneRefused x ks → NoneRefused y ks → listed_from x ks ≡ listed_from y ks
listed-alike x y [] s p q = refl
listed-alike x y (k ∷ ks) s p q =
    let z = alongside x y k s p.0 q.0 in
    let one = called-alike x y k (ap (λ (v : Heard). v.said) z.hears) in
    let more = listed-alike (onward x k) (onward y k) ks z.stays p.1 q.1 in
    ap (λ (n : ℕ). unless n (call_of x.session (offer_with x.buffer k)) (listed_from (onward x k) ks)) p.0
    ∙ (λ i. one i ∷ more i)
    ∙ sym (ap (λ (n : ℕ). unless n (call_of y.session (offer_with y.buffer k)) (listed_from (onward y k) ks)) q.0)

-- before the first transfer a mark may stand, and nothing else
abbrev pub mark_by : Said → List Call
mark_by (Said.took (Outcome.Refused k)) = []
mark_by (Said.took (Outcome.Taken a)) = []
mark_by (Said.took (Outcome.Handed y)) = Call.handed ∷ []
mark_by (Said.noted y) = []
mark_by (Said.shut y) = []

pub data Marks : List Call → Type 0 where
  no-mark : Marks []
  one-mark : Marks (Call.handed ∷ [])

pub marks-by : (v : Said) → Marks (mark_by v)
marks-by (Said.took (Outcome.Refused k)) = no-mark
marks-by (Said.took (Outcome.Taken a)) = no-mark
marks-by (Said.took (Outcome.Handed y)) = one-mark
marks-by (Said.noted y) = no-mark
marks-by (Said.shut y) = no-mark

module _ (x : At) (t : List ℕ) (ks : List Ask) (p : NoneRefused x (calls x t ks)) (m : Answer) (here : said_of (ready x t) (Ask.transfer t) ≡ Said.took (Outcome.Taken m)) where
  abbrev a : Ask
  a = Ask.transfer t

  abbrev x' : At
  x' = onward x a

  pub calls-listed : listed_from x (calls x t ks) ≡ mark_by (said_of x a) ++ (Call.transfer t ∷ listed_from (specs.begun x t) ks)
  calls-listed =
      ap (λ (n : ℕ). unless n (call_of x.session (offer_with x.buffer a)) (listed_from x' (again_by (said_of x a) t ++ ks))) p.0 ∙ go (said_of x a) p.1 here
    where
      go : (v : Said) → NoneRefused x' (again_by v t ++ ks) → said_of (ready_by v x x') a ≡ Said.took (Outcome.Taken m)
          → call_by (outcome_in v) t ∷ listed_from x' (again_by v t ++ ks) ≡ mark_by v ++ (Call.transfer t ∷ listed_from (onward (ready_by v x x') a) ks)
      go (Said.took (Outcome.Refused k)) q e = refl
      go (Said.took (Outcome.Taken y)) q e = refl
      go (Said.took (Outcome.Handed y)) q e =
          ap (λ (n : ℕ). Call.handed ∷ unless n (call_of x'.session (offer_with x'.buffer a)) (listed_from (onward x' a) ks)) q.0
          ∙ ap (λ (v : Said). Call.handed ∷ call_by (outcome_in v) t ∷ listed_from (onward x' a) ks) e
      go (Said.noted y) q e = refl
      go (Said.shut y) q e = refl

pub taken-append : (xs ys : List Offer) (s : Session) → taken s (xs ++ ys) ≡ taken s xs ++ taken (after s xs) ys
taken-append [] ys s = refl
taken-append (x ∷ xs) ys s = go (refusal s x) (taken-append xs ys (next s x))
  where
    go : (k : ℕ) → taken (next s x) (xs ++ ys) ≡ taken (next s x) xs ++ taken (after (next s x) xs) ys
        → unless k (call_of s x) (taken (next s x) (xs ++ ys)) ≡ unless k (call_of s x) (taken (next s x) xs) ++ taken (after (next s x) xs) ys
    go zero e = ap (call_of s x ∷◌) e
    go (suc k) e = e

-- ---- events of a list that goes on
events-append : (o : Opening) (cs ds : List Call) → is_open cs ≡ true → events o (cs ++ ds) ≡ events o cs ++ events o ds
events-append o [] ds p = refl
events-append o (Call.transfer t ∷ cs) ds p = ap (event_by (reading_of o t) t ∷◌) (events-append o cs ds p)
events-append o (Call.lost ∷ cs) ds p = ap (missing ∷◌) (events-append o cs ds p)
events-append o (Call.handed ∷ cs) ds p = ap (mark ∷◌) (events-append o cs ds p)
events-append o (Call.close ∷ cs) ds p = absurd (true≢false (sym p))

loose-append : (es fs : List Event) → loose (es ++ fs) ≡ loose es ++ loose fs
loose-append [] fs = refl
loose-append (idle ∷ es) fs = ap (Entry.Idle ∷◌) (loose-append es fs)
loose-append (unreadable n ∷ es) fs = ap (Entry.Unreadable n ∷◌) (loose-append es fs)
loose-append (missing ∷ es) fs = ap (Entry.Lost ∷◌) (loose-append es fs)
loose-append (readable h d ∷ es) fs = ap (Entry.Headers h.len ∷◌) (loose-append es fs)
loose-append (mark ∷ es) fs = loose-append es fs

last-mark : (f : LastFid) (es : List Event) → last_fid f (es ++ (mark ∷ [])) ≡ last_fid f es
last-mark f [] = refl
last-mark f (idle ∷ es) = last-mark f es
last-mark f (unreadable n ∷ es) = last-mark f es
last-mark f (missing ∷ es) = last-mark f es
last-mark f (readable h d ∷ es) = last-mark _ es
last-mark f (mark ∷ es) = last-mark f es

since-mark : (b : Bool) (es : List Event) → spoilt_since b (es ++ (mark ∷ [])) ≡ spoilt_since b es
since-mark b [] = refl
since-mark b (idle ∷ es) = since-mark b es
since-mark b (unreadable n ∷ es) = since-mark true es
since-mark b (missing ∷ es) = since-mark true es
since-mark b (readable h d ∷ es) = since-mark false es
since-mark b (mark ∷ es) = since-mark b es

-- ---- what became of the earlier frame
out_one : (b : Bool) (d : Delivery) (n : ℕ) (D : List ℕ) → AtMostOne (fate_items (handing b d) n D)
out_one true d n D = added.one _
out_one false d n D = added.one _

ended-one : (e : Ended) (n : ℕ) (D : List ℕ) → AtMostOne (ended_items e n D)
ended-one None n D = added.none
ended-one (Some w) n D = added.one _

out-not : (ph : Phase) (b : Bool) → NotUnder (out_by ph b).track.phase
out-not Fresh b = tt
out-not (Under r) b = tt
out-not (Past f) b = tt

-- ---- one history: the calls cs, then perhaps a mark, then t and the rest
module _ (o : Opening) (cs : List Call) (t : List ℕ) (h : Header) (reads : reading_of o t ≡ Readable h) (other : Other h.fid (last_fid none (events o cs)))
    (clear : spoilt_since false (events o cs) ≡ false) (open₀ : is_open cs ≡ true) (known : Proper (fresh o) cs) (rest : List Call) where
  abbrev c : Call
  c = Call.transfer t

  abbrev s : Session
  s = run (fresh o) cs

  abbrev D : List ℕ
  D = data_run (fresh o) [] cs

  marked-last : (pre : List Call) → Marks pre → last_fid none (events o (cs ++ pre)) ≡ last_fid none (events o cs)
  marked-last pre no-mark = ap (λ (l : List Call). last_fid none (events o l)) (append-nil cs)
  marked-last pre one-mark = ap (last_fid none) (events-append o cs (Call.handed ∷ []) open₀) ∙ last-mark none (events o cs)

  marked-since : (pre : List Call) → Marks pre → spoilt_since false (events o (cs ++ pre)) ≡ spoilt_since false (events o cs)
  marked-since pre no-mark = ap (λ (l : List Call). spoilt_since false (events o l)) (append-nil cs)
  marked-since pre one-mark = ap (spoilt_since false) (events-append o cs (Call.handed ∷ []) open₀) ∙ since-mark false (events o cs)

  marked-loose : (pre : List Call) → Marks pre → loose (events o pre) ≡ []
  marked-loose pre no-mark = refl
  marked-loose pre one-mark = refl

  handed-not : NotUnder (run (fresh o) (cs ++ (Call.handed ∷ []))).rest.track.phase
  unfolding handed_of out_of
  handed-not = subst (λ (r : Session). NotUnder r.rest.track.phase) (sym (run-append cs (Call.handed ∷ []) (fresh o))) (out-not s.rest.track.phase s.rest.track.gap)

  module _ (pre : List Call) (marks : Marks pre) (p : Proper (fresh o) ((cs ++ pre) ++ (c ∷ rest))) where
    abbrev before : List Call
    before = cs ++ pre

    still-other : Other h.fid (last_fid none (events o before))
    still-other = subst (Other h.fid) (sym (marked-last pre marks)) other

    still-clear : spoilt_since false (events o before) ≡ false
    still-clear = marked-since pre marks ∙ clear

    still_open : is_open before ≡ true
    still_open = proper-open before c rest (fresh o) p

    ended : List Item
    ended = (begun o before t h reads still-other still-clear still_open).ended

    became : List Item
    became = items s D pre ++ ended

    became-at-most : (pre' : List Call) → Marks pre' → pre ≡ pre' → AtMostOne (items s D pre' ++ ended)
    unfolding ended
    became-at-most pre' no-mark e =
        let z = (begun o before t h reads still-other still-clear still_open).ended_is in
        subst AtMostOne (sym z.2) (ended-one z.0 z.1 (data_run (fresh o) [] before))
    became-at-most pre' one-mark e =
        let z : ended ≡ [] = (begun o before t h reads still-other still-clear still_open).ended-none (subst (λ (l : List Call). NotUnder (run (fresh o) (cs ++ l)).rest.track.phase) (sym e) handed-not) in
        subst AtMostOne (sym (ap (λ (l : List Item). (out_items s.rest.track.phase D ++ []) ++ l) z ∙ append-nil _ ∙ append-nil _))
        (out_one (out_by s.rest.track.phase false).frame.still (out_by s.rest.track.phase false).frame.delivery (out_by s.rest.track.phase false).frame.delivery.len D)

    earlier-is : earlier o before t h reads still-other still-clear still_open ≡ items (fresh o) [] cs ++ became
    unfolding earlier ended became
    earlier-is = ap (◌++ ended) (items-append cs pre (fresh o) []) ∙ append_assoc (items (fresh o) [] cs) (items s D pre) ended

    all-loose : loose (events o (before ++ (c ∷ rest))) ≡ loose (events o cs) ++ loose (events o (c ∷ rest))
    all-loose =
        ap loose (events-append o before (c ∷ rest) still_open)
        ∙ loose-append (events o before) (events o (c ∷ rest))
        ∙ ap (◌++ loose (events o (c ∷ rest)))
        (ap loose (events-append o cs pre open₀) ∙ loose-append (events o cs) (events o pre) ∙ ap (loose (events o cs) ++◌) (marked-loose pre marks) ∙ append-nil (loose (events o cs)))

    pub adds : Adds o cs (before ++ (c ∷ rest)) (frames_by o (c ∷ rest)) (loose (events o (c ∷ rest)))
    unfolding became
    adds =
        record {
          settled = items (fresh o) [] cs;
          was = afoot s.rest.track.phase D;
          became = became;
          was-way = afoot-way s.rest.track.phase D;
          became-one = became-at-most pre marks refl;
          had = frames-made o cs known;
          has = frames-from o before t h reads still-other still-clear still_open rest p ∙ ap (◌++ frames_by o (c ∷ rest)) earlier-is;
          loose-after = all-loose;
        }

    pub later-proper : Proper (fresh o) (c ∷ rest)
    later-proper = proper-later o before t h reads still-other still-clear still_open rest p

-- ---- of two that are opened alike the later frames are the same
pub events-alike : (o p : Opening) → OpenedAlike o p → (cs : List Call) → events o cs ≡ events p cs
events-alike o p a [] = refl
events-alike o p a (Call.transfer t ∷ cs) = λ i. event_by (reads-alike o p a t i) t ∷ events-alike o p a cs i
events-alike o p a (Call.lost ∷ cs) = ap (missing ∷◌) (events-alike o p a cs)
events-alike o p a (Call.handed ∷ cs) = ap (mark ∷◌) (events-alike o p a cs)
events-alike o p a (Call.close ∷ cs) = refl

pub frames-alike : (o p : Opening) → OpenedAlike o p → (cs : List Call) → Proper (fresh o) cs → Proper (fresh p) cs → frames_by o cs ≡ frames_by p cs
frames-alike o p a cs q r =
    let f : Alike (fresh o) (fresh p) = record { opening = a; track = refl } in
    frames-made o cs q
    ∙ (λ i. items_alike cs (fresh o) (fresh p) [] f i ++ afoot ((run-alike cs (fresh o) (fresh p) f).track i).phase (data-alike cs (fresh o) (fresh p) [] f i))
    ∙ sym (frames-made p cs r)

-- ---- THE LEDGERS
module _ (o : Opening) (before after : List Call) (starts : List Item) (single : List Entry) (d : Adds o before after starts single) where
  frames-total : (m : Entry → ℕ) (xs ys : List Item) → total m (map entry_of (xs ++ ys)) ≡ total m (map entry_of xs) + total m (map entry_of ys)
  frames-total m xs ys = ap (total m) (map-append xs ys) ∙ total-append m (map entry_of xs) (map entry_of ys)

  grows : (m : Entry → ℕ) (n k : ℕ) → n ≡ total m (entries o before) → k ≡ total m (entries o after) → Grows m n k d.was d.became starts single
  grows m n k e f =
      let b = total-append m (map entry_of (frames_by o before)) (loose (events o before)) in
      let b₁ = ap (λ (l : List Item). total m (map entry_of l)) d.had ∙ frames-total m d.settled d.was in
      let g = total-append m (map entry_of (frames_by o after)) (loose (events o after)) in
      let g₁ = ap (λ (l : List Item). total m (map entry_of l)) d.has ∙ frames-total m (d.settled ++ d.became) starts in
      let g₂ = frames-total m d.settled d.became in
      let g₃ = ap (total m) d.loose-after ∙ total-append m (loose (events o before)) single in
      let s = total-append m (map entry_of starts) single in
      omega arith

  way-stamps : (xs : List Item) → UnderWay xs → stamps (map entry_of xs) ≡ []
  way-stamps xs UnderWay.none = refl
  way-stamps xs (UnderWay.one n D) = refl

  entry-stamps : (cs : List Call) → stamps (entries o cs) ≡ stamps (map entry_of (frames_by o cs))
  entry-stamps cs =
      stamps-append (map entry_of (frames_by o cs)) (loose (events o cs)) ∙ ap (stamps (map entry_of (frames_by o cs)) ++◌) (loose-stamped (events o cs)) ∙ append-nil _

  frames-stamps : (xs ys : List Item) → stamps (map entry_of (xs ++ ys)) ≡ stamps (map entry_of xs) ++ stamps (map entry_of ys)
  frames-stamps xs ys = ap stamps (map-append xs ys) ∙ stamps-append (map entry_of xs) (map entry_of ys)

  stamps-before : stamps (entries o before) ≡ stamps (map entry_of d.settled)
  stamps-before =
      entry-stamps before
      ∙ ap (λ (l : List Item). stamps (map entry_of l)) d.had
      ∙ frames-stamps d.settled d.was
      ∙ ap (stamps (map entry_of d.settled) ++◌) (way-stamps d.was d.was-way)
      ∙ append-nil _

  stamps-after : stamps (entries o after) ≡ (stamps (entries o before) ++ stamps (map entry_of d.became)) ++ stamps (map entry_of starts)
  stamps-after =
      entry-stamps after
      ∙ ap (λ (l : List Item). stamps (map entry_of l)) d.has
      ∙ frames-stamps (d.settled ++ d.became) starts
      ∙ ap (◌++ stamps (map entry_of starts)) (frames-stamps d.settled d.became ∙ ap (◌++ stamps (map entry_of d.became)) (sym stamps-before))

  between-append : (f : ℕ → ℕ → ℕ) (as₀ bs : List ℕ) → between f (as₀ ++ bs) ≡ steps_by f as₀ bs
  between-append f [] bs = omega arith
  between-append f (a ∷ []) [] = omega arith
  between-append f (a ∷ []) (b ∷ bs) = omega arith
  between-append f (a ∷ e ∷ es) bs = let i = between-append f (e ∷ es) bs in omega arith

  pub grown : (l m : Ledger) → Right o before l → Right o after m → Grown o before after starts single d l m
  grown l m r q =
      record {
        counts = λ k. grows (one_in (place_of k)) _ _ (r.counts k) (q.counts k);
        bytes = λ k. grows (part_in (place_of k)) _ _ (r.bytes k) (q.bytes k);
        losses = grows (one_in lost_line) _ _ r.losses q.losses;
        idles = grows (one_in idle_line) _ _ r.idles q.idles;
        plain = grows untimed _ _ r.plain q.plain;
        ticks = q.ticks ∙ ap (between forward) stamps-after ∙ between-append forward (stamps (entries o before) ++ stamps (map entry_of d.became)) (stamps (map entry_of starts));
        backward = q.backward ∙ ap (between back) stamps-after ∙ between-append back (stamps (entries o before) ++ stamps (map entry_of d.became)) (stamps (map entry_of starts));
      }
