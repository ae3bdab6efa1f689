-- The first run, and what is left of the list after it; and the rule on a list whose first run is part read.
use Rattle.std.specs.Prelude.{None, Some}
use Rattle.session_rules.specs.Options.{Fault, Layer, Stamp}
use Prim.Native.Nat.{ℕ, ◌+◌}
use mathlib.Core.Path.{◌≡◌, refl, sym, ◌∙◌, ap}
use mathlib.Core.Bool.{Bool, true, false, cond, not, ◌&&◌, ◌||◌, beq}
use mathlib.Core.List.{List, [], ◌∷◌, ◌++◌, append_assoc, append-nil}
use lib.ListN.{length, length-append}
use lib.Dec.{ltb, eqb}
use borrow.Author.Tests.{eq-eqb}
use Rattle.rules.specs.IfElse.{if_else}
use Rattle.sizes.specs.declared.Opening.{Opening}
use Rattle.sizes.specs.Framing.{by_eof}
use Rattle.session_rules.specs.declared.Header.{Header}
use Rattle.session_rules.specs.declared.Reason.{Reason}
use Rattle.session_rules.specs.declared.Reason.TheVariants.{Gap, Error, Clock, Mixed, Long, Empty}
use Rattle.session_rules.specs.declared.Run.{Run}
use Rattle.session_rules.specs.declared.Phase.{Phase}
use Rattle.session_rules.specs.declared.Phase.TheVariants.{Fresh, Under, Past}
use Rattle.session_rules.specs.declared.Fate.{Fate}
use Rattle.session_rules.specs.declared.Delivery.{Delivery}
use Rattle.session_rules.specs.Entry.{Entry}
use Rattle.books.specs.Rule.{Seen, ahead, runs, frame_of, stray_of, closed, data_of, ◌or_stamp◌, first_stamp, ◌then_layer◌, last_layer, ◌or◌, when, differs, mixes, fault_at, fault_from, Item, handed_out, settled, strays, nothing, judged}
use Rattle.books.specs.Demands.{fate_items}
use Rattle.session_rules.specs.Turns.{first_of, clash_of, earlier_of, later_of, same_of, mixed_of, fault_of, joined_of, complete_of, ends_of, fate_of, phase_of}

abbrev pub first : Bool → List Seen → List Seen
first f [] = []
first f (t ∷ ts) = cond (beq f t.header.fid) (t ∷ first f ts) []

abbrev pub later : Bool → List Seen → List Seen
later f [] = []
later f (t ∷ ts) = cond (beq f t.header.fid) (later f ts) (t ∷ ts)

pub runs-cut : (t : Seen) (ts : List Seen) → runs (t ∷ ts) ≡ (t ∷ first t.header.fid ts) ∷ runs (later t.header.fid ts)
runs-cut t [] = refl
runs-cut t (u ∷ us) = ap (ahead t) (runs-cut u us) ∙ go t.header.fid u.header.fid (runs-cut u us)
  where
    go : (f g : Bool) → runs (u ∷ us) ≡ (u ∷ first g us) ∷ runs (later g us)
        → cond (beq f g) ((t ∷ u ∷ first g us) ∷ runs (later g us)) ((t ∷ []) ∷ (u ∷ first g us) ∷ runs (later g us))
        ≡ (t ∷ cond (beq f g) (u ∷ first f us) []) ∷ runs (cond (beq f g) (later f us) (u ∷ us))
    go true true e = refl
    go false false e = refl
    go true false e = ap ((t ∷ []) ∷◌) (sym e)
    go false true e = ap ((t ∷ []) ∷◌) (sym e)

-- of the rest of a run, what belongs to the frame part read, and what is stray: m is whether a mark closes what is read
abbrev pub rest_of : Opening → Bool → List Seen → List Seen
rest_of o m r = cond m [] (frame_of o r)

abbrev pub past_of : Opening → Bool → List Seen → List Seen
past_of o m r = cond m r (stray_of o r)

-- what is owed of a frame part read: its fault so far q, its data so far D, its first stamp s, its last layer y, its still bit b; r is the rest of its run, rs the runs after it
abbrev pub cont : Opening → Bool → Fault → List ℕ → Stamp → Layer → Bool → Bool → List Seen → List (List Seen) → List Item
cont o p q D s y b m r rs =
    settled (p && nothing rs) ((m || closed o (rest_of o m r)) || (not (by_eof o) && not (nothing rs)))
    (q or fault_from o (s or_stamp first_stamp (rest_of o m r)) b (length D) (rest_of o m r)) (s or_stamp first_stamp (rest_of o m r)) (y then_layer last_layer (rest_of o m r)) b (D ++ data_of (rest_of o m r))
    ∷ (strays (past_of o m r) ++ judged o p rs)

abbrev pub pass : Opening → Bool → List Seen → List (List Seen) → List Item
pass o p r rs = strays r ++ judged o p rs

-- the same by phase: a is whether an unreadable or lost transfer comes before the next readable one or mark, m whether a mark comes before the next readable one
abbrev pub onward : Opening → Bool → Phase → Bool → Bool → List ℕ → List Seen → List (List Seen) → List Item
onward o p Fresh a m D r rs = judged o p rs
onward o p (Past f) a m D r rs = pass o p r rs
onward o p (Under x) a m D r rs = cont o p (x.fault or when a Gap) D x.stamp x.layer x.still m r rs

pub or_assoc : (x y z : Fault) → x or (y or z) ≡ (x or y) or z
or_assoc None y z = refl
or_assoc (Some w) y z = refl

pub or_sound : (x : Fault) → x or None ≡ x
or_sound None = refl
or_sound (Some w) = refl

pub stamp-assoc : (x y z : Stamp) → x or_stamp (y or_stamp z) ≡ (x or_stamp y) or_stamp z
stamp-assoc None y z = refl
stamp-assoc (Some w) y z = refl

pub stamp-absent : (x : Stamp) → x or_stamp None ≡ x
stamp-absent None = refl
stamp-absent (Some w) = refl

pub layer-assoc : (x y z : Layer) → x then_layer (y then_layer z) ≡ (x then_layer y) then_layer z
layer-assoc x y None = refl
layer-assoc x y (Some w) = refl

pub absent-layer : (x : Layer) → None then_layer x ≡ x
absent-layer None = refl
absent-layer (Some w) = refl

-- a run of which nothing is read yet
pub cont-new : (o : Opening) (p : Bool) (t : Seen) (r : List Seen) (rs : List (List Seen))
    → judged o p ((t ∷ r) ∷ rs) ≡ cont o p (when t.before Gap) [] None None t.header.still false (t ∷ r) rs
cont-new o p t r rs = rw (absent-layer (last_layer (frame_of o (t ∷ r))))

-- the tracker's words and the rule's
pub first-or : (q : Fault) (b : Bool) (w : Reason) → first_of q b w ≡ q or when b w
first-or (Some v) b w = refl
first-or None true w = refl
first-or None false w = refl

pub earlier-or : (s t : Stamp) → earlier_of s t ≡ s or_stamp t
earlier-or None t = refl
earlier-or (Some x) t = refl

pub later-then : (y z : Layer) → later_of y z ≡ y then_layer z
later-then y None = refl
later-then y (Some w) = refl

-- a stamp is held to the frame's first, whether that came before it or is its own
pub clash-or : (s t z : Stamp) → clash_of s t ≡ differs (s or_stamp (t or_stamp z)) t
clash-or None None z = refl
clash-or None (Some x) z = rw (eq-eqb x x refl)
clash-or (Some y) None z = refl
clash-or (Some y) (Some x) z = refl

pub same-beq : (a b : Bool) → same_of a b ≡ beq a b
same-beq true true = refl
same-beq true false = refl
same-beq false true = refl
same-beq false false = refl

pub fault-or : (o : Opening) (x : Run) (h : Header) (d : ℕ) (z : Stamp) → fault_of o x h d ≡ x.fault or fault_at o (x.stamp or_stamp (h.stamp or_stamp z)) x.still x.bytes h d
fault-or o x h d z =
    first-or (first_of q (mixed_of x h) Mixed) (ltb o.frame (x.bytes + d)) Long
    ∙ ap (◌or l) (first-or q (mixed_of x h) Mixed
    ∙ ap (λ (b : Bool). q or when (not b) Mixed) (same-beq x.still h.still)
    ∙ ap (◌or m) (first-or (first_of x.fault h.error Error) (clash_of x.stamp h.stamp) Clock
    ∙ ap (λ y. y or when (clash_of x.stamp h.stamp) Clock) (first-or x.fault h.error Error)
    ∙ ap (λ b. (x.fault or when h.error Error) or when b Clock) (clash-or x.stamp h.stamp z)))
    ∙ sym (or_assoc ((x.fault or when h.error Error) or c) m l)
    ∙ sym (or_assoc (x.fault or when h.error Error) c (m or l))
    ∙ sym (or_assoc x.fault (when h.error Error) (c or (m or l)))
  where
    q : Fault
    q = first_of (first_of x.fault h.error Error) (clash_of x.stamp h.stamp) Clock

    l : Fault
    l = when (ltb o.frame (x.bytes + d)) Long

    m : Fault
    m = when (mixes x.still h.still) Mixed

    c : Fault
    c = when (differs (x.stamp or_stamp (h.stamp or_stamp z)) h.stamp) Clock

module _ (o : Opening) (p : Bool) (r : List Seen) (rs : List (List Seen)) where
  -- a complete frame
  end-law : (q : Fault) (s : Stamp) (y : Layer) (b : Bool) (n : ℕ) (D : List ℕ) (way : Bool) (rest : List Item) → n ≡ length D
      → settled way true q s y b D ∷ rest ≡ fate_items (complete_of q n s y b) n D ++ rest
  unfolding if_else
  end-law (Some w) s y b n D way rest e = rw e
  end-law None s y b n D way rest e = rw e (go (eqb (length D) 0) b)
    where
      d : Delivery
      d = record { len = length D; stamp = s; layer = y }

      go : (c b : Bool) → record { entry = cond c (Entry.Dropped Empty (length D)) (handed_out b d); load = D } ∷ rest
          ≡ fate_items (if_else c (Fate.Dropped Empty) (if_else b (Fate.Still d) (Fate.Delivered d))) (length D) D ++ rest
      go true b = refl
      go false true = refl
      go false false = refl

  -- one readable transfer of the frame's own run; e is whether its EOF counts, m whether a mark comes after it
  module _ (x : Run) (D : List ℕ) (h : Header) (d : List ℕ) (a m : Bool) (u : x.bytes ≡ length D) where
    abbrev y : Run
    y = joined_of o x h (length d)

    abbrev rest : Bool → List Seen
    rest e = cond (e || m) [] (frame_of o r)

    abbrev stamp : Bool → Stamp
    stamp e = x.stamp or_stamp (h.stamp or_stamp first_stamp (rest e))

    abbrev layer : Bool → Layer
    layer e = x.layer then_layer (h.layer then_layer last_layer (rest e))

    abbrev led : Bool → List Item
    led e =
        settled (p && nothing rs) (((e || m) || closed o (rest e)) || (not (by_eof o) && not (nothing rs)))
        (x.fault or (fault_at o (stamp e) x.still (length D) h (length d) or (when (not e && a) Gap or fault_from o (stamp e) x.still (length D + length d) (rest e))))
        (stamp e) (layer e) x.still (D ++ (d ++ data_of (rest e)))
        ∷ (strays (cond (e || m) r (stray_of o r)) ++ judged o p rs)

    by-eof : (e : Bool) → led e ≡ fate_items (fate_of e y) (x.bytes + length d) (D ++ d) ++ onward o p (phase_of e y) a m (D ++ d) r rs
    by-eof false =
        let z : Stamp = first_stamp (rest_of o m r) in
        let S : Stamp = x.stamp or_stamp (h.stamp or_stamp z) in
        rw (fault-or o x h (length d) z, earlier-or x.stamp h.stamp, ← stamp-assoc x.stamp h.stamp z, later-then x.layer h.layer, ← layer-assoc x.layer h.layer (last_layer (rest_of o m r)), u, ← or_assoc (x.fault or fault_at o S x.still (length D) h (length d)) (when a Gap) _, ← or_assoc x.fault (fault_at o S x.still (length D) h (length d)) _, length-append D d, append_assoc D d _)
    by-eof true =
        let S : Stamp = x.stamp or_stamp (h.stamp or_stamp None) in
        rw (fault-or o x h (length d) None, earlier-or x.stamp h.stamp, later-then x.layer h.layer, append-nil d, u, or_sound (fault_at o S x.still (length D) h (length d)), stamp-absent h.stamp)
        (end-law (x.fault or fault_at o (x.stamp or_stamp h.stamp) x.still (length D) h (length d)) (x.stamp or_stamp h.stamp) (x.layer then_layer h.layer) x.still (length D + length d) (D ++ d) (p && nothing rs) (strays r ++ judged o p rs) (sym (length-append D d)))

    pub take-law : (b : Bool) → cont o p x.fault D x.stamp x.layer x.still false (record { header = h; load = d; before = b; after = a; marked = m } ∷ r) rs
        ≡ fate_items (fate_of (ends_of o h) y) (x.bytes + length d) (D ++ d) ++ onward o p (phase_of (ends_of o h) y) a m (D ++ d) r rs
    take-law b = by-eof (ends_of o h)
