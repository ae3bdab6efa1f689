-- One call: what the rule owes before it is what the answer enters, and what the rule owes after it.
use Rattle.std.specs.Prelude.{None, Some}
use Rattle.session_rules.specs.Options.{Fault, Layer, Stamp}
use Prim.Native.Nat.{ℕ, ◌+◌}
use mathlib.Core.Path.{◌≡◌, refl, sym, ◌∙◌, ap}
use mathlib.Core.Bool.{Bool, true, false, cond, not, ◌&&◌, true≢false, beq}
use mathlib.Core.List.{List, [], ◌∷◌, ◌++◌, append-nil}
use lib.ListN.{length, length-append}
use lib.Dec.{eqb}
use borrow.Author.Tests.{eq-eqb, ne_eqb}
use Rattle.rules.specs.IfElse.{if_else}
use Rattle.sizes.specs.declared.Opening.{Opening}
use Rattle.sizes.specs.Framing.{by_eof}
use Rattle.session_rules.specs.declared.Header.{Header}
use Rattle.session_rules.specs.declared.Reason.TheVariants.{Gap, Cut, Empty}
use Rattle.session_rules.specs.declared.Run.{Run}
use Rattle.session_rules.specs.declared.Phase.{Phase}
use Rattle.session_rules.specs.declared.Phase.TheVariants.{Fresh, Under, Past}
use Rattle.session_rules.specs.declared.Turn.{Turn}
use Rattle.session_rules.specs.declared.Delivery.{Delivery}
use Rattle.session_rules.specs.Track.{handing}
use Rattle.session_rules.specs.Entry.{Entry}
use Rattle.books.specs.Rule.{Event, idle, unreadable, missing, readable, mark, Seen, spoiled, marks, readables, runs, ◌or_stamp◌, ◌or◌, when, Item, handed_out, settled, judged, nothing}
use Rattle.books.specs.Demands.{ended_items, fate_items}
use Rattle.books.proofs.Made.{base, turn_items}
use Rattle.books.proofs.Cut.{first, later, runs-cut, cont, cont-new, pass, onward, or_sound, stamp-absent, same-beq, take-law}
use Rattle.session_rules.specs.Turns.{first_of, why_of, same_of, begun_of, joined_of, ends_of, turned_why, fate_of, phase_of, join_turn, stray_turn, turn_by, ready_of, hands_by, out_by, spoilt_by}

-- what the rule owes, from a phase, whether a gap is pending, the data so far, and the events to come; p is whether the session stays open
abbrev pub owed : Opening → Bool → Phase → Bool → List ℕ → List Event → List Item
owed o p Fresh b D es = judged o p (runs (readables b es))
owed o p (Past f) b D es = pass o p (first f (readables b es)) (runs (later f (readables b es)))
owed o p (Under x) b D es = cont o p (x.fault or when (spoiled es) Gap) D x.stamp x.layer x.still (marks es) (first x.fid (readables b es)) (runs (later x.fid (readables b es)))

-- the bytes of the run under way are those of its data
abbrev pub Holds : Phase → List ℕ → Type 0
Holds Fresh D = Unit {0}
Holds (Past f) D = Unit {0}
Holds (Under x) D = x.bytes ≡ length D

onward-owed : (o : Opening) (p e : Bool) (x : Run) (D : List ℕ) (es : List Event)
    → onward o p (phase_of e x) (spoiled es) (marks es) D (first x.fid (readables false es)) (runs (later x.fid (readables false es))) ≡ owed o p (phase_of e x) false D es
onward-owed o p true x D es = refl
onward-owed o p false x D es = refl

pub begun-fault : (b : Bool) → first_of None b Gap ≡ when b Gap
begun-fault true = refl
begun-fault false = refl

pub and-false : (b : Bool) → (b && false) ≡ false
and-false true = refl
and-false false = refl

pub not-false : (b : Bool) → not b ≡ false → b ≡ true
not-false true e = refl
not-false false e = sym e

module _ (o : Opening) (p : Bool) (h : Header) (d : List ℕ) (es : List Event) where
  abbrev seen : Bool → Seen
  seen b = record { header = h; load = d; before = b; after = spoiled es; marked = marks es }

  -- what the joining of a run makes, and what is owed after it
  abbrev pub thereby : Run → List ℕ → List Item
  thereby x D =
      fate_items (fate_of (ends_of o h) (joined_of o x h (length d))) (x.bytes + length d) (D ++ d) ++ owed o p (phase_of (ends_of o h) (joined_of o x h (length d))) false (D ++ d) es

  go_on : (b : Bool) (x : Run) (D : List ℕ) → x.bytes ≡ length D
      → cont o p x.fault D x.stamp x.layer x.still false (seen b ∷ first x.fid (readables false es)) (runs (later x.fid (readables false es))) ≡ thereby x D
  go_on b x D e =
      take-law o p (first x.fid (readables false es)) (runs (later x.fid (readables false es))) x D h d (spoiled es) (marks es) e b
      ∙ ap (fate_items (fate_of (ends_of o h) (joined_of o x h (length d))) (x.bytes + length d) (D ++ d) ++◌) (onward-owed o p (ends_of o h) (joined_of o x h (length d)) (D ++ d) es)

  start-new : (b : Bool) → judged o p (runs (readables b (readable h d ∷ es))) ≡ thereby (begun_of b h.fid h.still) []
  start-new b =
      ap (judged o p) (runs-cut (seen b) (readables false es))
      ∙ cont-new o p (seen b) (first h.fid (readables false es)) (runs (later h.fid (readables false es)))
      ∙ ap (λ (q : Fault). cont o p q [] None None h.still false (seen b ∷ first h.fid (readables false es)) (runs (later h.fid (readables false es)))) (sym (begun-fault b))
      ∙ go_on b (begun_of b h.fid h.still) [] refl

  -- a frame that another FID ends, and that is not handed out
  turn-new : (b : Bool) (x : Run) (D : List ℕ) → x.bytes ≡ length D → (not (by_eof o) && ready_of x.fault x.bytes) ≡ false
      → cont o p (x.fault or None) D x.stamp x.layer x.still false [] (runs (readables b (readable h d ∷ es))) ≡ ended_items (Some (why_of x.fault (turned_why o))) x.bytes D ++ thereby (begun_of b h.fid h.still) []
  unfolding if_else
  turn-new b x D e n = rw (ap nothing (runs-cut (seen b) (readables false es)), and-false p, append-nil D, e) (go (by_eof o) x.fault (rw e at n))
    where
      go : (c : Bool) (q : Fault) → (not c && ready_of q (length D)) ≡ false
          → settled false (not c && true) ((q or None) or None) (x.stamp or_stamp None) x.layer x.still D ∷ judged o p (runs (readables b (readable h d ∷ es)))
          ≡ record { entry = Entry.Dropped (why_of q (if_else c Cut Empty)) (length D); load = D } ∷ thereby (begun_of b h.fid h.still) []
      go true None n = ap (record { entry = Entry.Dropped Cut (length D); load = D } ∷◌) (start-new b)
      go c (Some w) n = rw (settled-bad c) (ap (record { entry = Entry.Dropped w (length D); load = D } ∷◌) (start-new b))
        where
          settled-bad : (c : Bool) → settled false (not c && true) (Some w) (x.stamp or_stamp None) x.layer x.still D ≡ record { entry = Entry.Dropped w (length D); load = D }
          settled-bad true = refl
          settled-bad false = refl
      go false None n = rw (not-false (eqb (length D) 0) n) (ap (record { entry = Entry.Dropped Empty (length D); load = D } ∷◌) (start-new b))

  -- what a turn makes, with the data so far, and what is owed after it
  abbrev then : Turn → List ℕ → List ℕ → List Item
  then t D E = turn_items t D E ++ owed o p t.track.phase false E es

  -- a readable transfer, where no frame is handed out before it
  pub read-law : (ph : Phase) (b : Bool) (D : List ℕ) → Holds ph D → hands_by ph o h ≡ false
      → owed o p ph b D (readable h d ∷ es) ≡ then (turn_by ph o b h (length d)) D (base ph h.fid D ++ d)
  unfolding if_else
  read-law Fresh b D e n = start-new b
  read-law (Past f) b D e n = rw (same-beq f h.fid) (go (beq f h.fid))
    where
      go : (c : Bool) → pass o p (cond c (seen b ∷ first f (readables false es)) []) (runs (cond c (later f (readables false es)) (seen b ∷ readables false es)))
          ≡ then (if_else c (stray_turn f (length d)) (join_turn o (begun_of b h.fid h.still) h (length d) None 0)) D ([] ++ d)
      go true = refl
      go false = start-new b
  read-law (Under x) b D e n = rw (same-beq x.fid h.fid) (go (beq x.fid h.fid) (rw (same-beq x.fid h.fid) at n))
    where
      go : (c : Bool) → (not (by_eof o) && (not c && ready_of x.fault x.bytes)) ≡ false
          → cont o p (x.fault or None) D x.stamp x.layer x.still false (cond c (seen b ∷ first x.fid (readables false es)) []) (runs (cond c (later x.fid (readables false es)) (seen b ∷ readables false es)))
          ≡ then (if_else c (join_turn o x h (length d) None 0) (join_turn o (begun_of b h.fid h.still) h (length d) (Some (why_of x.fault (turned_why o))) x.bytes)) D (cond c D [] ++ d)
      go true m = rw or_sound (go_on b x D e)
      go false m = turn-new b x D e m

-- a frame that can be handed out: without fault and with data
abbrev pub Whole : Phase → Type 0
Whole Fresh = ⊥
Whole (Past f) = ⊥
Whole (Under x) = (x.fault ≡ None) × (x.bytes ≡ 0 → ⊥)

ready-whole : (q : Fault) (n : ℕ) → ready_of q n ≡ true → (q ≡ None) × (n ≡ 0 → ⊥)
ready-whole None n e = (refl, λ z. true≢false (sym e ∙ ap not (eq-eqb n 0 z)))
ready-whole (Some w) n e = absurd (true≢false (sym e))

pub and_both : (a b : Bool) → (a && b) ≡ true → (a ≡ true) × (b ≡ true)
and_both true b e = (refl, e)
and_both false b e = absurd (true≢false (sym e))

pub hands-whole : (ph : Phase) (o : Opening) (h : Header) → hands_by ph o h ≡ true → Whole ph
hands-whole Fresh o h e = true≢false (sym e)
hands-whole (Past f) o h e = true≢false (sym e)
hands-whole (Under x) o h e = ready-whole x.fault x.bytes (and_both (not (same_of x.fid h.fid)) _ (and_both (not (by_eof o)) _ e).1).1

-- what a hand-out enters
abbrev pub out_items : Phase → List ℕ → List Item
out_items ph D = fate_items (handing (out_by ph false).frame.still (out_by ph false).frame.delivery) (out_by ph false).frame.delivery.len D

handed-law : (way : Bool) (q : Fault) (s : Stamp) (y : Layer) (b : Bool) (D : List ℕ) (rest : List Item) → q ≡ None → (length D ≡ 0 → ⊥)
    → settled way true q s y b D ∷ rest ≡ fate_items (handing b (record { len = length D; stamp = s; layer = y })) (length D) D ++ rest
handed-law way q s y b D rest e n = rw (e, ne_eqb (length D) 0 n) (go b)
  where
    d : Delivery
    d = record { len = length D; stamp = s; layer = y }

    go : (c : Bool) → record { entry = handed_out c d; load = D } ∷ rest ≡ fate_items (handing c d) (length D) D ++ rest
    go true = refl
    go false = refl

pub mark-law : (o : Opening) (p : Bool) (ph : Phase) (b : Bool) (D : List ℕ) (es : List Event) → Holds ph D → Whole ph
    → owed o p ph b D (mark ∷ es) ≡ out_items ph D ++ owed o p (out_by ph b).track.phase b D es
mark-law o p Fresh b D es e w = absurd w
mark-law o p (Past f) b D es e w = absurd w
mark-law o p (Under x) b D es e w =
    let rs : List (List Seen) = runs (later x.fid (readables b es)) in
    rw (append-nil D, stamp-absent x.stamp, e)
    (handed-law (p && nothing rs) ((x.fault or None) or None) x.stamp x.layer x.still D (pass o p (first x.fid (readables b es)) rs) (rw w.0 refl) (λ z. w.1 (e ∙ z)))

-- an idle transfer changes nothing owed; an unreadable or lost one spoils
pub idle-law : (o : Opening) (p : Bool) (ph : Phase) (b : Bool) (D : List ℕ) (es : List Event) → owed o p ph b D (idle ∷ es) ≡ owed o p ph b D es
idle-law o p Fresh b D es = refl
idle-law o p (Past f) b D es = refl
idle-law o p (Under x) b D es = refl

pub spoil-law : (o : Opening) (p : Bool) (ph : Phase) (b : Bool) (D : List ℕ) (es : List Event) → owed o p ph b D (missing ∷ es) ≡ owed o p (spoilt_by ph) true D es
spoil-law o p Fresh b D es = refl
spoil-law o p (Past f) b D es = refl
spoil-law o p (Under x) b D es = go x.fault
  where
    go : (q : Fault) → cont o p (q or Some Gap) D x.stamp x.layer x.still (marks es) (first x.fid (readables true es)) (runs (later x.fid (readables true es)))
        ≡ cont o p (first_of q true Gap or when (spoiled es) Gap) D x.stamp x.layer x.still (marks es) (first x.fid (readables true es)) (runs (later x.fid (readables true es)))
    go None = refl
    go (Some w) = refl

pub unread-law : (o : Opening) (p : Bool) (ph : Phase) (b : Bool) (D : List ℕ) (n : ℕ) (es : List Event) → owed o p ph b D (unreadable n ∷ es) ≡ owed o p ph b D (missing ∷ es)
unread-law o p Fresh b D n es = refl
unread-law o p (Past f) b D n es = refl
unread-law o p (Under x) b D n es = refl

-- the bytes keep to the data
pub spoil-holds : (ph : Phase) (D : List ℕ) → Holds ph D → Holds (spoilt_by ph) D
spoil-holds Fresh D e = e
spoil-holds (Past f) D e = e
spoil-holds (Under x) D e = e

phase-holds : (o : Opening) (h : Header) (d : List ℕ) (x : Run) (D : List ℕ) (e : Bool) → x.bytes ≡ length D → Holds (phase_of e (joined_of o x h (length d))) (D ++ d)
phase-holds o h d x D true q = tt
phase-holds o h d x D false q = rw q (sym (length-append D d))

pub read-holds : (o : Opening) (h : Header) (d : List ℕ) (ph : Phase) (b : Bool) (D : List ℕ) → Holds ph D → Holds (turn_by ph o b h (length d)).track.phase (base ph h.fid D ++ d)
unfolding if_else
read-holds o h d Fresh b D e = phase-holds o h d (begun_of b h.fid h.still) [] (ends_of o h) refl
read-holds o h d (Past f) b D e = go (same_of f h.fid)
  where
    go : (c : Bool) → Holds (if_else c (stray_turn f (length d)) (join_turn o (begun_of b h.fid h.still) h (length d) None 0)).track.phase ([] ++ d)
    go true = tt
    go false = phase-holds o h d (begun_of b h.fid h.still) [] (ends_of o h) refl
read-holds o h d (Under x) b D e = rw (same-beq x.fid h.fid) (go (beq x.fid h.fid))
  where
    go : (c : Bool) → Holds (if_else c (join_turn o x h (length d) None 0) (join_turn o (begun_of b h.fid h.still) h (length d) (Some (why_of x.fault (turned_why o))) x.bytes)).track.phase (cond c D [] ++ d)
    go true = phase-holds o h d x D (ends_of o h) e
    go false = phase-holds o h d (begun_of b h.fid h.still) [] (ends_of o h) refl
