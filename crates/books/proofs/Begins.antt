-- A transfer that begins a frame: from there on a session enters what a fresh one enters.
use Rattle.std.specs.Prelude.{None, Some}
use Rattle.session_rules.specs.Options.{Ended}
use Prim.Native.Nat.{ℕ, ◌-◌}
use mathlib.Core.Path.{◌≡◌, refl, sym, ap, ◌∙◌}
use mathlib.Core.Bool.{Bool, true, false, true≢false, beq}
use mathlib.Core.List.{List, [], ◌∷◌, ◌++◌, append_assoc, append-nil}
use lib.ListN.{length}
use Rattle.rules.specs.IfElse.{if_else}
use Rattle.sizes.specs.declared.Opening.{Opening}
use Rattle.session_rules.specs.declared.Header.{Header}
use Rattle.session_rules.specs.declared.Reading.{Reading}
use Rattle.session_rules.specs.declared.Reading.TheVariants.{Idle, Unreadable, Readable}
use Rattle.session_rules.specs.Transfer.{reading_of}
use Rattle.session_rules.specs.declared.Phase.{Phase}
use Rattle.session_rules.specs.declared.Phase.TheVariants.{Fresh, Under, Past}
use Rattle.session_rules.specs.declared.Run.{Run}
use Rattle.session_rules.specs.declared.Track.{Track}
use Rattle.session_rules.specs.declared.Turn.{Turn}
use Rattle.session_rules.specs.declared.Delivery.{Delivery}
use Rattle.session_rules.specs.Turns.{same_of, why_of, begun_of, ends_of, turned_why, phase_of, join_turn, stray_turn, turn_by, turn_of, hands_of, out_by, out_of, spoilt_by, spoilt_of}
use Rattle.session_rules.specs.Entry.{Entry}
use Rattle.session_rules.specs.declared.Session.{Session}
use Rattle.session_rules.specs.Session.{fresh, read_of, took_by, took_of, hands_for, hands_out, handed_of}
use Rattle.session_rules.specs.Call.{Call}
use Rattle.session_rules.specs.Calls.{next_call, run}
use Rattle.books.specs.Rule.{Event, event_by, events, is_open, Item, frames_by}
use Rattle.books.specs.Demands.{ended_items}
use Rattle.books.proofs.Made.{base}
use Rattle.books.proofs.Taken.{Proper}
use Rattle.books.proofs.History.{call_items, data_next, items, data_run, afoot, next-opening, turn_gap, out-gap}
use Rattle.books.proofs.Accounts.{frames-made}
use Rattle.books.proofs.Sound.{run-opening}
use Rattle.books.specs.LastReadable.{LastFid, none, of, last_fid, spoilt_since, Other}
use Rattle.books.proofs.Openings.{alike-itself, alike_moved}
use Rattle.books.proofs.Alike.{Alike, proper-alike, items_alike, data-alike, run-alike, run-append, data-append, items-append}

-- ---- what a session knows of the transfers before: the FID of the last readable one, and whether it is spoilt since
abbrev pub phase_fid : Phase → LastFid
phase_fid Fresh = none
phase_fid (Under x) = of x.fid
phase_fid (Past f) = of f

same-fid : (f g : Bool) → same_of f g ≡ true → f ≡ g
same-fid true true e = refl
same-fid false false e = refl
same-fid true false e = sym e
same-fid false true e = e

ended-fid : (e : Bool) (x : Run) → phase_fid (phase_of e x) ≡ of x.fid
ended-fid true x = refl
ended-fid false x = refl

turn-fid : (o : Opening) (h : Header) (n : ℕ) (ph : Phase) (b : Bool) → phase_fid (turn_by ph o b h n).track.phase ≡ of h.fid
unfolding if_else
turn-fid o h n Fresh b = ended-fid (ends_of o h) _
turn-fid o h n (Past f) b = go (same_of f h.fid) refl
  where
    go : (c : Bool) → same_of f h.fid ≡ c → phase_fid (if_else c (stray_turn f n) (join_turn o (begun_of b h.fid h.still) h n None 0)).track.phase ≡ of h.fid
    go true e = ap of (same-fid f h.fid e)
    go false e = ended-fid (ends_of o h) _
turn-fid o h n (Under x) b = go (same_of x.fid h.fid) refl
  where
    go : (c : Bool) → same_of x.fid h.fid ≡ c →
        phase_fid (if_else c (join_turn o x h n None 0) (join_turn o (begun_of b h.fid h.still) h n (Some (why_of x.fault (turned_why o))) x.bytes)).track.phase ≡ of h.fid
    go true e = ended-fid (ends_of o h) _ ∙ ap of (same-fid x.fid h.fid e)
    go false e = ended-fid (ends_of o h) _

spoilt-fid : (ph : Phase) → phase_fid (spoilt_by ph) ≡ phase_fid ph
spoilt-fid Fresh = refl
spoilt-fid (Under x) = refl
spoilt-fid (Past f) = refl

out-fid : (ph : Phase) (b : Bool) → phase_fid (out_by ph b).track.phase ≡ phase_fid ph
out-fid Fresh b = refl
out-fid (Under x) b = refl
out-fid (Past f) b = refl

took-fid : (s : Session) (t : List ℕ) (es : List Event) (x : Reading) →
    last_fid (phase_fid (took_by x s t).session.rest.track.phase) es ≡ last_fid (phase_fid s.rest.track.phase) (event_by x t ∷ es)
unfolding read_of turn_of spoilt_of
took-fid s t es Idle = refl
took-fid s t es (Unreadable k) = ap (λ (f : LastFid). last_fid f es) (spoilt-fid s.rest.track.phase)
took-fid s t es (Readable h) =
    ap (λ (f : LastFid). last_fid f es) (turn-fid s.rest.opening h (length t - h.len) s.rest.track.phase s.rest.track.gap)

took-gap : (s : Session) (t : List ℕ) (es : List Event) (x : Reading) →
    spoilt_since (took_by x s t).session.rest.track.gap es ≡ spoilt_since s.rest.track.gap (event_by x t ∷ es)
unfolding read_of turn_of spoilt_of
took-gap s t es Idle = refl
took-gap s t es (Unreadable k) = refl
took-gap s t es (Readable h) =
    ap (λ (b : Bool). spoilt_since b es) (turn_gap s.rest.opening h (length t - h.len) s.rest.track.phase s.rest.track.gap)

pub run-fid : (cs : List Call) (s : Session) → is_open cs ≡ true →
    phase_fid (run s cs).rest.track.phase ≡ last_fid (phase_fid s.rest.track.phase) (events s.rest.opening cs)
unfolding took_of spoilt_of handed_of out_of
run-fid [] s p = refl
run-fid (Call.transfer t ∷ cs) s p =
    run-fid cs (next_call s (Call.transfer t)) p
    ∙ ap (λ (o : Opening). last_fid (phase_fid (next_call s (Call.transfer t)).rest.track.phase) (events o cs)) (next-opening s (Call.transfer t))
    ∙ took-fid s t (events s.rest.opening cs) (reading_of s.rest.opening t)
run-fid (Call.lost ∷ cs) s p =
    run-fid cs (next_call s Call.lost) p ∙ ap (λ (f : LastFid). last_fid f (events s.rest.opening cs)) (spoilt-fid s.rest.track.phase)
run-fid (Call.handed ∷ cs) s p =
    run-fid cs (next_call s Call.handed) p ∙ ap (λ (f : LastFid). last_fid f (events s.rest.opening cs)) (out-fid s.rest.track.phase s.rest.track.gap)
run-fid (Call.close ∷ cs) s p = absurd (true≢false (sym p))

pub run-gap : (cs : List Call) (s : Session) → is_open cs ≡ true →
    (run s cs).rest.track.gap ≡ spoilt_since s.rest.track.gap (events s.rest.opening cs)
unfolding took_of spoilt_of handed_of out_of
run-gap [] s p = refl
run-gap (Call.transfer t ∷ cs) s p =
    run-gap cs (next_call s (Call.transfer t)) p
    ∙ ap (λ (o : Opening). spoilt_since (next_call s (Call.transfer t)).rest.track.gap (events o cs)) (next-opening s (Call.transfer t))
    ∙ took-gap s t (events s.rest.opening cs) (reading_of s.rest.opening t)
run-gap (Call.lost ∷ cs) s p = run-gap cs (next_call s Call.lost) p
run-gap (Call.handed ∷ cs) s p =
    run-gap cs (next_call s Call.handed) p ∙ ap (λ (b : Bool). spoilt_since b (events s.rest.opening cs)) (out-gap s.rest.track.phase s.rest.track.gap)
run-gap (Call.close ∷ cs) s p = absurd (true≢false (sym p))

-- ---- a readable transfer of another FID, where nothing is spoilt: its turn is that of a fresh session, but for the frame that it ends
pub other-fid : (f g : Bool) → (f ≡ g → ⊥) → (same_of f g ≡ false) × (beq f g ≡ false)
other-fid true true n = absurd (n refl)
other-fid false false n = absurd (n refl)
other-fid true false n = (refl, refl)
other-fid false true n = (refl, refl)

pub record Begun (x y : Turn) : Type 0 where
  pub track : x.track ≡ y.track
  pub fate : x.answer.fate ≡ y.answer.fate
  pub bytes : x.bytes ≡ y.bytes
  pub at : x.at ≡ y.at
  pub len : x.len ≡ y.len

module _ (o : Opening) (h : Header) (n : ℕ) where
  pub turn-begun : (ph : Phase) → Other h.fid (phase_fid ph) → Begun (turn_by ph o false h n) (turn_by Fresh o false h n)
  unfolding if_else
  turn-begun Fresh p = record { track = refl; fate = refl; bytes = refl; at = refl; len = refl }
  turn-begun (Past f) p = rw (other-fid f h.fid p).0 (record { track = refl; fate = refl; bytes = refl; at = refl; len = refl })
  turn-begun (Under x) p = rw (other-fid x.fid h.fid p).0 (record { track = refl; fate = refl; bytes = refl; at = refl; len = refl })

base-none : (f : Bool) (D : List ℕ) (ph : Phase) → Other f (phase_fid ph) → base ph f D ≡ []
base-none f D Fresh p = refl
base-none f D (Past g) p = refl
base-none f D (Under x) p = rw (other-fid x.fid f p).1 refl

-- no frame is under way: none is ended
abbrev pub NotUnder : Phase → Type 0
NotUnder Fresh = Unit {0}
NotUnder (Past f) = Unit {0}
NotUnder (Under x) = ⊥

none-ended : (o : Opening) (h : Header) (n : ℕ) (ph : Phase) → NotUnder ph → (turn_by ph o false h n).answer.ended ≡ None
unfolding if_else
none-ended o h n Fresh p = refl
none-ended o h n (Past f) p = go (same_of f h.fid)
  where
    go : (c : Bool) → (if_else c (stray_turn f n) (join_turn o (begun_of false h.fid h.still) h n None 0)).answer.ended ≡ None
    go true = refl
    go false = refl
none-ended o h n (Under x) p = absurd p

pub record Starts (o : Opening) (s : Session) (D t : List ℕ) : Type 0 where
  pub ended : List Item
  pub ended_is : (e : Ended) × (k : ℕ) × (ended ≡ ended_items e k D)
  pub ended-none : NotUnder s.rest.track.phase → ended ≡ []
  entered : call_items s D (Call.transfer t) ≡ ended ++ call_items (fresh o) [] (Call.transfer t)
  held : data_next s D (Call.transfer t) ≡ data_next (fresh o) [] (Call.transfer t)
  alike : Alike (next_call s (Call.transfer t)) (next_call (fresh o) (Call.transfer t))

starts : (o : Opening) (s : Session) (D t : List ℕ) (h : Header) → s.rest.opening ≡ o → s.rest.track.gap ≡ false →
    Other h.fid (phase_fid s.rest.track.phase) → reading_of o t ≡ Readable h → Starts o s D t
unfolding took_of read_of turn_of
starts o s D t h e g p q =
    let n = length t - h.len in
    let T : Turn = turn_by s.rest.track.phase o false h n in
    let b = turn-begun o h n s.rest.track.phase p in
    let turned : (turn_by s.rest.track.phase s.rest.opening s.rest.track.gap h n).track ≡ (turn_by Fresh o false h n).track = rw (e, g) b.track in
    record {
      ended = ended_items T.answer.ended T.gone D;
      ended_is = (T.answer.ended, T.gone, refl);
      ended-none = λ w. ap (λ (e : Ended). ended_items e T.gone D) (none-ended o h n s.rest.track.phase w);
      entered = rw (e, q, g, base-none h.fid D s.rest.track.phase p, b.fate, b.bytes) refl;
      held = rw (e, q, base-none h.fid D s.rest.track.phase p) refl;
      alike =
          record {
            opening = alike_moved o o (next_call s (Call.transfer t)).rest.opening (next_call (fresh o) (Call.transfer t)).rest.opening
                (next-opening s (Call.transfer t) ∙ e) (next-opening (fresh o) (Call.transfer t)) (alike-itself o);
            track =
                ap (λ (x : Reading). (took_by x s t).session.rest.track) (ap (λ (w : Opening). reading_of w t) e ∙ q)
                ∙ turned
                ∙ sym (ap (λ (x : Reading). (took_by x (fresh o) t).session.rest.track) q);
          };
    }

-- ---- so the frames of a list that goes on with such a transfer are those before it and those from it on
pub proper-open : (before : List Call) (c : Call) (rest : List Call) (s : Session) → Proper s (before ++ (c ∷ rest)) → is_open before ≡ true
proper-open [] c rest s p = refl
proper-open (Call.transfer t ∷ before) c rest s p = proper-open before c rest (next_call s (Call.transfer t)) p.1
proper-open (Call.lost ∷ before) c rest s p = proper-open before c rest (next_call s Call.lost) p
proper-open (Call.handed ∷ before) c rest s p = proper-open before c rest (next_call s Call.handed) p.1
proper-open (Call.close ∷ []) c rest s p = absurd p
proper-open (Call.close ∷ (x ∷ before)) c rest s p = absurd p

proper-from : (before rest : List Call) (s : Session) → is_open before ≡ true → Proper s (before ++ rest) → Proper (run s before) rest
proper-from [] rest s e p = p
proper-from (Call.transfer t ∷ before) rest s e p = proper-from before rest (next_call s (Call.transfer t)) e p.1
proper-from (Call.lost ∷ before) rest s e p = proper-from before rest (next_call s Call.lost) e p
proper-from (Call.handed ∷ before) rest s e p = proper-from before rest (next_call s Call.handed) e p.1
proper-from (Call.close ∷ before) rest s e p = absurd (true≢false (sym e))

-- a fresh session hands nothing out
pub fresh-hands : (o : Opening) (t : List ℕ) → hands_out (fresh o) t ≡ false
unfolding hands_out hands_of
fresh-hands o t = go (reading_of o t)
  where
    go : (x : Reading) → hands_for x (fresh o) ≡ false
    go Idle = refl
    go (Unreadable k) = refl
    go (Readable h) = refl

module _ (o : Opening) (before : List Call) (t : List ℕ) (h : Header) (reads : reading_of o t ≡ Readable h)
    (other : Other h.fid (last_fid none (events o before))) (unspoilt : spoilt_since false (events o before) ≡ false) (open₀ : is_open before ≡ true) where
  abbrev c : Call
  c = Call.transfer t

  abbrev s : Session
  s = run (fresh o) before

  abbrev D : List ℕ
  D = data_run (fresh o) [] before

  pub begun : Starts o s D t
  begun =
      starts o s D t h (run-opening before (fresh o)) (run-gap before (fresh o) open₀ ∙ unspoilt) (rw (run-fid before (fresh o) open₀) other) reads

  unfoldable pub earlier : List Item
  earlier = items (fresh o) [] before ++ begun.ended

  module _ (rest : List Call) where
    later-items : call_items s D c ++ items (next_call s c) (data_next s D c) rest ≡ begun.ended ++ items (fresh o) [] (c ∷ rest)
    later-items =
        rw (begun.entered, begun.held)
        (ap (λ (x : List Item). (begun.ended ++ call_items (fresh o) [] c) ++ x)
        (items_alike rest (next_call s c) (next_call (fresh o) c) (data_next (fresh o) [] c) begun.alike)
        ∙ append_assoc begun.ended (call_items (fresh o) [] c) _)

    all-items : items (fresh o) [] (before ++ (c ∷ rest)) ≡ earlier ++ items (fresh o) [] (c ∷ rest)
    unfolding earlier
    all-items =
        items-append before (c ∷ rest) (fresh o) []
        ∙ ap (items (fresh o) [] before ++◌) later-items
        ∙ sym (append_assoc (items (fresh o) [] before) begun.ended (items (fresh o) [] (c ∷ rest)))

    all-data : data_run (fresh o) [] (before ++ (c ∷ rest)) ≡ data_run (fresh o) [] (c ∷ rest)
    all-data =
        data-append before (c ∷ rest) (fresh o) []
        ∙ rw begun.held (data-alike rest (next_call s c) (next_call (fresh o) c) (data_next (fresh o) [] c) begun.alike)

    all-track : (run (fresh o) (before ++ (c ∷ rest))).rest.track ≡ (run (fresh o) (c ∷ rest)).rest.track
    all-track =
        ap (λ (x : Session). x.rest.track) (run-append before (c ∷ rest) (fresh o)) ∙ (run-alike rest (next_call s c) (next_call (fresh o) c) begun.alike).track

    pub proper-later : Proper (fresh o) (before ++ (c ∷ rest)) → Proper (fresh o) (c ∷ rest)
    proper-later p = (fresh-hands o t, proper-alike rest (next_call s c) (next_call (fresh o) c) begun.alike (proper-from before (c ∷ rest) (fresh o) open₀ p).1)

    pub frames-from : Proper (fresh o) (before ++ (c ∷ rest)) → frames_by o (before ++ (c ∷ rest)) ≡ earlier ++ frames_by o (c ∷ rest)
    frames-from p =
        frames-made o (before ++ (c ∷ rest)) p
        ∙ ap (◌++ afoot (run (fresh o) (before ++ (c ∷ rest))).rest.track.phase (data_run (fresh o) [] (before ++ (c ∷ rest)))) all-items
        ∙ ap (λ (w : Track). (earlier ++ items (fresh o) [] (c ∷ rest)) ++ afoot w.phase (data_run (fresh o) [] (before ++ (c ∷ rest)))) all-track
        ∙ ap (λ (d : List ℕ). (earlier ++ items (fresh o) [] (c ∷ rest)) ++ afoot (run (fresh o) (c ∷ rest)).rest.track.phase d) all-data
        ∙ append_assoc earlier (items (fresh o) [] (c ∷ rest)) _
        ∙ ap (earlier ++◌) (sym (frames-made o (c ∷ rest) (proper-later p)))

-- ---- a list that is one frame, ended: what is called after it is entered after it
ended-alone : (xs : List Item) (ph : Phase) (D : List ℕ) (m : Item) (d : Delivery) → m.entry ≡ Entry.Delivered d → xs ++ afoot ph D ≡ m ∷ [] → xs ≡ m ∷ []
ended-alone xs Fresh D m d e q = sym (append-nil xs) ∙ q
ended-alone xs (Past f) D m d e q = sym (append-nil xs) ∙ q
ended-alone [] (Under x) D m d e q = cc
ended-alone (y ∷ []) (Under x) D m d e q = cc
ended-alone (y ∷ (z ∷ xs)) (Under x) D m d e q = cc

pub frames-after : (o : Opening) (cs after : List Call) (m : Item) (d : Delivery) → m.entry ≡ Entry.Delivered d → frames_by o cs ≡ m ∷ [] → Proper (fresh o) cs → Proper (fresh o) (cs ++ after) →
    (rest : List Item) × (frames_by o (cs ++ after) ≡ m ∷ rest)
frames-after o cs after m d e q p r = (
  _,
  frames-made o (cs ++ after) r
      ∙ ap (◌++ afoot (run (fresh o) (cs ++ after)).rest.track.phase (data_run (fresh o) [] (cs ++ after)))
      (items-append cs after (fresh o) []
      ∙ ap (◌++ items (run (fresh o) cs) (data_run (fresh o) [] cs) after)
      (ended-alone (items (fresh o) [] cs) (run (fresh o) cs).rest.track.phase (data_run (fresh o) [] cs) m d e (sym (frames-made o cs p) ∙ q))),
)
