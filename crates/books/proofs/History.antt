-- Over all the calls taken: the items that the answers enter are the rule's, and the ledger is what they post.
use Rattle.std.specs.Prelude.{None, Some}
use Rattle.session_rules.specs.Options.{Ended, Fault}
use Prim.Native.Nat.{ℕ, ◌+◌, ◌-◌}
use mathlib.Core.Path.{◌≡◌, refl, sym, ◌∙◌, ap}
use mathlib.Core.Bool.{Bool, true, false, not, true≢false}
use mathlib.Core.List.{List, [], ◌∷◌, ◌++◌, map, append_assoc, append-nil}
use native.Mathlib.Omega.{arith}
use lib.ListN.{length, drop, length-drop}
use Rattle.rules.specs.IfElse.{if_else}
use Rattle.sizes.specs.declared.Opening.{Opening}
use Rattle.sizes.specs.Framing.{by_eof}
use Rattle.session_rules.specs.declared.Header.{Header}
use Rattle.session_rules.specs.declared.Reading.{Reading}
use Rattle.session_rules.specs.declared.Reading.TheVariants.{Idle, Unreadable, Readable}
use Rattle.session_rules.specs.Transfer.{reading_of}
use Rattle.session_rules.specs.declared.Reason.TheVariants.{Cut}
use Rattle.session_rules.specs.declared.Phase.{Phase}
use Rattle.session_rules.specs.declared.Phase.TheVariants.{Fresh, Under, Past}
use Rattle.session_rules.specs.declared.Fate.{Fate}
use Rattle.session_rules.specs.declared.Answer.{Answer}
use Rattle.session_rules.specs.declared.Turn.{Turn}
use Rattle.session_rules.specs.declared.Delivery.{Delivery}
use Rattle.session_rules.specs.declared.HandOut.{HandOut}
use Rattle.session_rules.specs.Track.{handing}
use Rattle.session_rules.specs.Entry.{Entry}
use Rattle.session_rules.specs.declared.Ledger.{Ledger}
use Rattle.session_rules.specs.Ledger.{post_of, ended_of, fated_of, answered_of}
use Rattle.session_rules.specs.declared.Session.{Session}
use Rattle.session_rules.specs.Refusals.{posted_of}
use Rattle.session_rules.specs.Session.{read_of, took_by, took_of, hands_for, hands_out, handed_of, missed_of}
use Rattle.books.specs.Rule.{Event, readable, event_by, events, is_open, ◌or◌, Item, entry_of, loose, total, stamps, stamps_of}
use Rattle.books.specs.Demands.{ended_items, fate_items}
use Rattle.books.proofs.Made.{base, turn_items, Framed, turn-framed}
use Rattle.books.proofs.Cut.{cont}
use Rattle.books.proofs.Owed.{owed, Holds, and-false, read-law, Whole, hands-whole, out_items, mark-law, idle-law, spoil-law, unread-law, spoil-holds, read-holds}
use Rattle.books.proofs.Posts.{posts, posts-append, total-append}
use Rattle.books.proofs.Taken.{Hands, Proper}
use Rattle.session_rules.specs.Turns.{same_of, begun_of, turned_why, join_turn, stray_turn, turn_by, turn_of, hands_of, out_by, out_of, spoilt_of, closed_by, closed_of, why_of}
use Rattle.session_rules.specs.Call.{Call}
use Rattle.session_rules.specs.Calls.{next_call, run}

-- ---- what one call enters, with the data so far
abbrev pub items_by : Reading → Session → List ℕ → List ℕ → List Item
items_by Idle s D t = []
items_by (Unreadable k) s D t = []
items_by (Readable h) s D t =
    turn_items (turn_of s.rest.opening s.rest.track h (length t - h.len)) D (base s.rest.track.phase h.fid D ++ drop h.len t)

abbrev pub data_by : Reading → Session → List ℕ → List ℕ → List ℕ
data_by Idle s D t = D
data_by (Unreadable k) s D t = D
data_by (Readable h) s D t = base s.rest.track.phase h.fid D ++ drop h.len t

abbrev pub call_items : Session → List ℕ → Call → List Item
call_items s D (Call.transfer t) = items_by (reading_of s.rest.opening t) s D t
call_items s D Call.lost = []
call_items s D Call.handed = out_items s.rest.track.phase D
call_items s D Call.close = ended_items (closed_of s.rest.track).ended (closed_of s.rest.track).gone D

abbrev pub data_next : Session → List ℕ → Call → List ℕ
data_next s D (Call.transfer t) = data_by (reading_of s.rest.opening t) s D t
data_next s D Call.lost = D
data_next s D Call.handed = D
data_next s D Call.close = D

abbrev pub items : Session → List ℕ → List Call → List Item
items s D [] = []
items s D (c ∷ cs) = call_items s D c ++ items (next_call s c) (data_next s D c) cs

abbrev pub data_run : Session → List ℕ → List Call → List ℕ
data_run s D [] = D
data_run s D (c ∷ cs) = data_run (next_call s c) (data_next s D c) cs

-- the frame under way
abbrev pub afoot : Phase → List ℕ → List Item
afoot Fresh D = []
afoot (Past f) D = []
afoot (Under x) D = record { entry = Entry.UnderWay x.bytes; load = D } ∷ []

-- ---- nothing more to come
open-end : (o : Opening) (ph : Phase) (b : Bool) (D : List ℕ) → Holds ph D → owed o true ph b D [] ≡ afoot ph D
open-end o Fresh b D e = refl
open-end o (Past f) b D e = refl
open-end o (Under x) b D e = rw (append-nil D, e, and-false (not (by_eof o)))

close-end : (o : Opening) (ph : Phase) (b : Bool) (D : List ℕ) → Holds ph D → owed o false ph b D [] ≡ ended_items (closed_by ph b).ended (closed_by ph b).gone D
close-end o Fresh b D e = refl
close-end o (Past f) b D e = refl
close-end o (Under x) b D e = go x.fault
  where
    go : (q : Fault) → cont o false (q or None) D x.stamp x.layer x.still false [] [] ≡ ended_items (Some (why_of q Cut)) x.bytes D
    go None = rw (append-nil D, e, and-false (not (by_eof o)))
    go (Some w) = rw (append-nil D, e, and-false (not (by_eof o)))

closed-afoot : (ph : Phase) (b : Bool) (D : List ℕ) → afoot (closed_by ph b).track.phase D ≡ []
closed-afoot Fresh b D = refl
closed-afoot (Past f) b D = refl
closed-afoot (Under x) b D = refl

pub turn_gap : (o : Opening) (h : Header) (n : ℕ) (ph : Phase) (b : Bool) → (turn_by ph o b h n).track.gap ≡ false
unfolding if_else
turn_gap o h n Fresh b = refl
turn_gap o h n (Past f) b = go (same_of f h.fid)
  where
    go : (c : Bool) → (if_else c (stray_turn f n) (join_turn o (begun_of b h.fid h.still) h n None 0)).track.gap ≡ false
    go true = refl
    go false = refl
turn_gap o h n (Under x) b = go (same_of x.fid h.fid)
  where
    go : (c : Bool) → (if_else c (join_turn o x h n None 0) (join_turn o (begun_of b h.fid h.still) h n (Some (why_of x.fault (turned_why o))) x.bytes)).track.gap ≡ false
    go true = refl
    go false = refl

-- ---- the items are the rule's
abbrev Right : Session → List ℕ → List Call → Type 0
Right s D cs =
    owed s.rest.opening (is_open cs) s.rest.track.phase s.rest.track.gap D (events s.rest.opening cs)
    ≡ items s D cs ++ afoot (run s cs).rest.track.phase (data_run s D cs)

read_right : (s : Session) (D : List ℕ) (t : List ℕ) (h : Header) (p : Bool) (es : List Event) → Holds s.rest.track.phase D → hands_for (Readable h) s ≡ false
    → owed s.rest.opening p s.rest.track.phase s.rest.track.gap D (readable h (drop h.len t) ∷ es)
    ≡ items_by (Readable h) s D t ++ owed s.rest.opening p (read_of s h (length t - h.len)).session.rest.track.phase (read_of s h (length t - h.len)).session.rest.track.gap (data_by (Readable h) s D t) es
unfolding turn_of read_of hands_of
read_right s D t h p es e n =
    rw (turn_gap s.rest.opening h (length t - h.len) s.rest.track.phase s.rest.track.gap, ← length-drop h.len t)
    (read-law s.rest.opening p h (drop h.len t) es s.rest.track.phase s.rest.track.gap D e n)

pub read_keeps : (s : Session) (D : List ℕ) (t : List ℕ) (h : Header) → Holds s.rest.track.phase D → Holds (read_of s h (length t - h.len)).session.rest.track.phase (data_by (Readable h) s D t)
unfolding turn_of read_of
read_keeps s D t h e = rw (← length-drop h.len t) (read-holds s.rest.opening h (drop h.len t) s.rest.track.phase s.rest.track.gap D e)

transfer-right : (s : Session) (D t : List ℕ) (cs : List Call) (r : Reading) → Holds s.rest.track.phase D → hands_for r s ≡ false
    → (Holds (took_by r s t).session.rest.track.phase (data_by r s D t) → Right (took_by r s t).session (data_by r s D t) cs)
    → owed s.rest.opening (is_open cs) s.rest.track.phase s.rest.track.gap D (event_by r t ∷ events s.rest.opening cs)
    ≡ (items_by r s D t ++ items (took_by r s t).session (data_by r s D t) cs) ++ afoot (run (took_by r s t).session cs).rest.track.phase (data_run (took_by r s t).session (data_by r s D t) cs)
unfolding spoilt_of read_of
transfer-right s D t cs Idle e n rec = idle-law s.rest.opening (is_open cs) s.rest.track.phase s.rest.track.gap D (events s.rest.opening cs) ∙ rec e
transfer-right s D t cs (Unreadable k) e n rec =
    unread-law s.rest.opening (is_open cs) s.rest.track.phase s.rest.track.gap D (length t) (events s.rest.opening cs)
    ∙ spoil-law s.rest.opening (is_open cs) s.rest.track.phase s.rest.track.gap D (events s.rest.opening cs)
    ∙ rec (spoil-holds s.rest.track.phase D e)
transfer-right s D t cs (Readable h) e n rec =
    read_right s D t h (is_open cs) (events s.rest.opening cs) e n
    ∙ ap (items_by (Readable h) s D t ++◌) (rec (read_keeps s D t h e))
    ∙ sym (append_assoc (items_by (Readable h) s D t) _ _)

-- a hand-out
pub whole-now : (s : Session) → Hands s → Whole s.rest.track.phase
unfolding hands_out hands_of
whole-now s (t, e) = go (reading_of s.rest.opening t) e
  where
    go : (r : Reading) → hands_for r s ≡ true → Whole s.rest.track.phase
    go Idle q = absurd (true≢false (sym q))
    go (Unreadable k) q = absurd (true≢false (sym q))
    go (Readable h) q = hands-whole s.rest.track.phase s.rest.opening h q

out-holds : (ph : Phase) (b : Bool) (D : List ℕ) → Holds (out_by ph b).track.phase D
out-holds Fresh b D = tt
out-holds (Past f) b D = tt
out-holds (Under x) b D = tt

pub out-gap : (ph : Phase) (b : Bool) → (out_by ph b).track.gap ≡ b
out-gap Fresh b = refl
out-gap (Past f) b = refl
out-gap (Under x) b = refl

handed-right : (s : Session) (D : List ℕ) (cs : List Call) → Holds s.rest.track.phase D → Hands s
    → (Holds (handed_of s).session.rest.track.phase D → Right (handed_of s).session D cs) → Right s D (Call.handed ∷ cs)
unfolding handed_of out_of
handed-right s D cs e h rec =
    let ph : Phase = s.rest.track.phase in
    mark-law s.rest.opening (is_open cs) ph s.rest.track.gap D (events s.rest.opening cs) e (whole-now s h)
    ∙ ap (λ (b : Bool). out_items ph D ++ owed s.rest.opening (is_open cs) (out_by ph s.rest.track.gap).track.phase b D (events s.rest.opening cs)) (sym (out-gap ph s.rest.track.gap))
    ∙ ap (out_items ph D ++◌) (rec (out-holds ph s.rest.track.gap D))
    ∙ sym (append_assoc (out_items ph D) _ _)

pub items-right : (cs : List Call) (s : Session) (D : List ℕ) → Proper s cs → Holds s.rest.track.phase D → Right s D cs
unfolding took_of spoilt_of closed_of hands_out
items-right [] s D p e = open-end s.rest.opening s.rest.track.phase s.rest.track.gap D e
items-right (Call.transfer t ∷ cs) s D p e =
    transfer-right s D t cs (reading_of s.rest.opening t) e p.0 (λ f. items-right cs (took_of s t).session (data_next s D (Call.transfer t)) p.1 f)
items-right (Call.lost ∷ cs) s D p e =
    spoil-law s.rest.opening (is_open cs) s.rest.track.phase s.rest.track.gap D (events s.rest.opening cs)
    ∙ items-right cs (missed_of s) D p (spoil-holds s.rest.track.phase D e)
items-right (Call.handed ∷ cs) s D p e = handed-right s D cs e p.0 (λ f. items-right cs (handed_of s).session D p.1 f)
items-right (Call.close ∷ []) s D p e =
    close-end s.rest.opening s.rest.track.phase s.rest.track.gap D e
    ∙ sym (rw (closed-afoot s.rest.track.phase s.rest.track.gap D) (append-nil _ ∙ append-nil _))
items-right (Call.close ∷ (c ∷ cs)) s D p e = absurd p

-- ---- the ledger is what the items and the loose entries post
abbrev loose_by : Reading → List ℕ → List Entry
loose_by Idle t = Entry.Idle ∷ []
loose_by (Unreadable k) t = Entry.Unreadable (length t) ∷ []
loose_by (Readable h) t = Entry.Headers h.len ∷ []

abbrev call_loose : Session → Call → List Entry
call_loose s (Call.transfer t) = loose_by (reading_of s.rest.opening t) t
call_loose s Call.lost = Entry.Lost ∷ []
call_loose s Call.handed = []
call_loose s Call.close = []

-- what a call posts, in its order
abbrev call_posted : Session → List ℕ → Call → List Entry
call_posted s D c = call_loose s c ++ map entry_of (call_items s D c)

abbrev pub posted : Session → List ℕ → List Call → List Entry
posted s D [] = []
posted s D (c ∷ cs) = call_posted s D c ++ posted (next_call s c) (data_next s D c) cs

ended-posts : (l : Ledger) (e : Ended) (g : ℕ) (D : List ℕ) → ended_of l e g ≡ posts l (map entry_of (ended_items e g D))
ended-posts l None g D = refl
ended-posts l (Some w) g D = refl

fated-posts : (l : Ledger) (f : Fate) (n : ℕ) (D : List ℕ) → Framed f → fated_of l f n ≡ posts l (map entry_of (fate_items f n D))
fated-posts l Fate.Idle n D h = absurd h
fated-posts l Fate.Kept n D h = refl
fated-posts l Fate.Stray n D h = refl
fated-posts l (Fate.Delivered d) n D h = refl
fated-posts l (Fate.Still d) n D h = refl
fated-posts l (Fate.Dropped w) n D h = refl
fated-posts l (Fate.Unreadable k) n D h = absurd h

pub map-append : (xs ys : List Item) → map entry_of (xs ++ ys) ≡ map entry_of xs ++ map entry_of ys
map-append [] ys = refl
map-append (x ∷ xs) ys = ap (entry_of x ∷◌) (map-append xs ys)

answered-posts : (l : Ledger) (a : Answer) (g n : ℕ) (D E : List ℕ) → Framed a.fate → answered_of l a g n ≡ posts l (map entry_of (ended_items a.ended g D ++ fate_items a.fate n E))
answered-posts l a g n D E h =
    fated-posts (ended_of l a.ended g) a.fate n E h
    ∙ ap (λ (x : Ledger). posts x (map entry_of (fate_items a.fate n E))) (ended-posts l a.ended g D)
    ∙ sym (ap (posts l) (map-append (ended_items a.ended g D) (fate_items a.fate n E)) ∙ posts-append l (map entry_of (ended_items a.ended g D)) (map entry_of (fate_items a.fate n E)))

took-posts : (s : Session) (D t : List ℕ) (r : Reading) → posted_of (took_by r s t).session ≡ posts (posted_of s) (loose_by r t ++ map entry_of (items_by r s D t))
unfolding read_of turn_of
took-posts s D t Idle = refl
took-posts s D t (Unreadable k) = refl
took-posts s D t (Readable h) =
    let T : Turn = turn_of s.rest.opening s.rest.track h (length t - h.len) in
    answered-posts (post_of (posted_of s) (Entry.Headers h.len)) T.answer T.gone T.bytes D (data_by (Readable h) s D t)
    (turn-framed s.rest.opening h (length t - h.len) s.rest.track.phase s.rest.track.gap)

handing-framed : (b : Bool) (d : Delivery) → Framed (handing b d)
handing-framed true d = tt
handing-framed false d = tt

out-frame : (ph : Phase) (b : Bool) → (out_by ph b).frame ≡ (out_by ph false).frame
out-frame Fresh b = refl
out-frame (Past f) b = refl
out-frame (Under x) b = refl

handed-posts : (s : Session) (D : List ℕ) → posted_of (handed_of s).session ≡ posts (posted_of s) (map entry_of (out_items s.rest.track.phase D))
unfolding handed_of out_of
handed-posts s D =
    let x : HandOut = (out_by s.rest.track.phase false).frame in
    ap (λ (y : HandOut). fated_of (posted_of s) (handing y.still y.delivery) y.delivery.len) (out-frame s.rest.track.phase s.rest.track.gap)
    ∙ fated-posts (posted_of s) (handing x.still x.delivery) x.delivery.len D (handing-framed x.still x.delivery)

call-posts : (s : Session) (D : List ℕ) (c : Call) → posted_of (next_call s c) ≡ posts (posted_of s) (call_posted s D c)
unfolding took_of
call-posts s D (Call.transfer t) = took-posts s D t (reading_of s.rest.opening t)
call-posts s D Call.lost = refl
call-posts s D Call.handed = handed-posts s D
call-posts s D Call.close = ended-posts (posted_of s) (closed_of s.rest.track).ended (closed_of s.rest.track).gone D

pub run-posts : (cs : List Call) (s : Session) (D : List ℕ) → posted_of (run s cs) ≡ posts (posted_of s) (posted s D cs)
run-posts [] s D = refl
run-posts (c ∷ cs) s D =
    run-posts cs (next_call s c) (data_next s D c)
    ∙ ap (λ (l : Ledger). posts l (posted (next_call s c) (data_next s D c) cs)) (call-posts s D c)
    ∙ sym (posts-append (posted_of s) (call_posted s D c) (posted (next_call s c) (data_next s D c) cs))

-- ---- and they are the same entries in another order
took-opening : (s : Session) (t : List ℕ) (r : Reading) → (took_by r s t).session.rest.opening ≡ s.rest.opening
unfolding read_of
took-opening s t Idle = refl
took-opening s t (Unreadable k) = refl
took-opening s t (Readable h) = refl

pub next-opening : (s : Session) (c : Call) → (next_call s c).rest.opening ≡ s.rest.opening
unfolding took_of handed_of
next-opening s (Call.transfer t) = took-opening s t (reading_of s.rest.opening t)
next-opening s Call.lost = refl
next-opening s Call.handed = refl
next-opening s Call.close = refl

loose-one : (o : Opening) (s : Session) (c : Call) (cs : List Call) → s.rest.opening ≡ o → Proper s (c ∷ cs) → loose (events o (c ∷ cs)) ≡ call_loose s c ++ loose (events o cs)
loose-one o s (Call.transfer t) cs e p = rw e (go (reading_of o t))
  where
    go : (r : Reading) → loose (event_by r t ∷ events o cs) ≡ loose_by r t ++ loose (events o cs)
    go Idle = refl
    go (Unreadable k) = refl
    go (Readable h) = refl
loose-one o s Call.lost cs e p = refl
loose-one o s Call.handed cs e p = refl
loose-one o s Call.close [] e p = refl
loose-one o s Call.close (c ∷ cs) e p = absurd p

pub proper-rest : (s : Session) (c : Call) (cs : List Call) → Proper s (c ∷ cs) → Proper (next_call s c) cs
proper-rest s (Call.transfer t) cs p = p.1
proper-rest s Call.lost cs p = p
proper-rest s Call.handed cs p = p.1
proper-rest s Call.close [] p = tt
proper-rest s Call.close (c ∷ cs) p = absurd p

pub posted-total : (m : Entry → ℕ) (o : Opening) (cs : List Call) (s : Session) (D : List ℕ) → s.rest.opening ≡ o → Proper s cs
    → total m (posted s D cs) ≡ total m (map entry_of (items s D cs)) + total m (loose (events o cs))
posted-total m o [] s D e p = refl
posted-total m o (c ∷ cs) s D e p =
    let a : ℕ = total m (call_loose s c) in
    let b : ℕ = total m (map entry_of (call_items s D c)) in
    let q = total-append m (call_posted s D c) (posted (next_call s c) (data_next s D c) cs) in
    let r = total-append m (call_loose s c) (map entry_of (call_items s D c)) in
    let i = posted-total m o cs (next_call s c) (data_next s D c) (next-opening s c ∙ e) (proper-rest s c cs p) in
    let u = ap (total m) (map-append (call_items s D c) (items (next_call s c) (data_next s D c) cs)) ∙ total-append m (map entry_of (call_items s D c)) (map entry_of (items (next_call s c) (data_next s D c) cs)) in
    let v = ap (total m) (loose-one o s c cs e p) ∙ total-append m (call_loose s c) (loose (events o cs)) in
    omega arith

pub stamps-append : (xs ys : List Entry) → stamps (xs ++ ys) ≡ stamps xs ++ stamps ys
stamps-append [] ys = refl
stamps-append (x ∷ xs) ys = ap (stamps_of x ++◌) (stamps-append xs ys) ∙ sym (append_assoc (stamps_of x) (stamps xs) (stamps ys))

loose-stamps : (s : Session) (c : Call) → stamps (call_loose s c) ≡ []
loose-stamps s (Call.transfer t) = go (reading_of s.rest.opening t)
  where
    go : (r : Reading) → stamps (loose_by r t) ≡ []
    go Idle = refl
    go (Unreadable k) = refl
    go (Readable h) = refl
loose-stamps s Call.lost = refl
loose-stamps s Call.handed = refl
loose-stamps s Call.close = refl

pub posted-stamps : (cs : List Call) (s : Session) (D : List ℕ) → stamps (posted s D cs) ≡ stamps (map entry_of (items s D cs))
posted-stamps [] s D = refl
posted-stamps (c ∷ cs) s D =
    stamps-append (call_posted s D c) (posted (next_call s c) (data_next s D c) cs)
    ∙ ap (λ (x : List ℕ). x ++ stamps (posted (next_call s c) (data_next s D c) cs)) (stamps-append (call_loose s c) (map entry_of (call_items s D c)) ∙ ap (λ (x : List ℕ). x ++ stamps (map entry_of (call_items s D c))) (loose-stamps s c))
    ∙ ap (stamps (map entry_of (call_items s D c)) ++◌) (posted-stamps cs (next_call s c) (data_next s D c))
    ∙ sym (ap stamps (map-append (call_items s D c) (items (next_call s c) (data_next s D c) cs)) ∙ stamps-append (map entry_of (call_items s D c)) (map entry_of (items (next_call s c) (data_next s D c) cs)))
