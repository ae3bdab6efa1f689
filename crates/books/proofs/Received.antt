-- The bytes of the rule's entries are the bytes received, and the byte accounts hold them all.
use Rattle.std.specs.Prelude.{None, Some}
use Rattle.session_rules.specs.Options.{Fault, Layer, Stamp}
use Prim.Native.Nat.{ℕ, ◌+◌, ◌≤◌}
use mathlib.Core.Path.{◌≡◌, refl, ◌∙◌, ap}
use mathlib.Core.Bool.{Bool, true, false, cond, ◌&&◌}
use mathlib.Core.List.{List, [], ◌∷◌, map}
use native.Mathlib.Omega.{arith}
use lib.ListN.{length, length-append, length-drop}
use lib.Dec.{eqb}
use Rattle.sizes.specs.declared.Opening.{Opening}
use Rattle.session_rules.specs.declared.Reading.{Reading}
use Rattle.session_rules.specs.declared.Reading.TheVariants.{Idle, Unreadable, Readable}
use Rattle.session_rules.specs.Transfer.{reading_of}
use Rattle.session_rules.proofs.Readings.{idle-exactly, readable-fits}
use Rattle.session_rules.specs.declared.Reason.TheVariants.{Gap, Error, Clock, Mixed, Long, Cut, Empty}
use Rattle.session_rules.specs.declared.Account.{Account}
use Rattle.session_rules.specs.Entry.{Entry}
use Rattle.books.specs.Rule.{Event, idle, unreadable, missing, readable, mark, event_by, events, is_open, Seen, readables, same, ahead, runs, closes, frame_of, stray_of, complete, data_of, first_stamp, last_layer, still_of, fault, Item, handed_out, verdict, strays, judge, nothing, judged, frames_by, loose, entry_of, entries, bytes_in, part_in, total, received}
use Rattle.books.specs.Demands.{over}
use Rattle.books.proofs.Posts.{total-append}
use Rattle.books.proofs.History.{map-append}
use Rattle.session_rules.specs.Accounts.{place_of, accounts}
use Rattle.session_rules.specs.Call.{Call}

-- ---- what a reading says of its transfer's bytes
abbrev Sound₀ : List ℕ → Reading → Type 0
Sound₀ t Idle = length t ≡ 0
Sound₀ t (Unreadable k) = Unit {0}
Sound₀ t (Readable h) = h.len ≤ length t

pub reading-sound : (o : Opening) (t : List ℕ) → Sound₀ t (reading_of o t)
reading-sound o t = go (reading_of o t) refl
  where
    go : (r : Reading) → reading_of o t ≡ r → Sound₀ t r
    go Idle e = ap length ((idle-exactly o t).0 e)
    go (Unreadable k) e = tt
    go (Readable h) e = (readable-fits o t h e).inside

-- ---- the events' bytes
abbrev pub gotten : List Event → ℕ
gotten [] = 0
gotten (idle ∷ es) = gotten es
gotten (unreadable n ∷ es) = n + gotten es
gotten (missing ∷ es) = gotten es
gotten (readable h d ∷ es) = h.len + length d + gotten es
gotten (mark ∷ es) = gotten es

event-got : (t : List ℕ) (es : List Event) (r : Reading) → Sound₀ t r → gotten (event_by r t ∷ es) ≡ length t + gotten es
event-got t es Idle e = omega (arith, e)
event-got t es (Unreadable k) e = refl
event-got t es (Readable h) e = omega (arith, length-drop h.len t, e)

pub events-got : (o : Opening) (cs : List Call) → gotten (events o cs) ≡ received cs
events-got o [] = refl
events-got o (Call.transfer t ∷ cs) = event-got t (events o cs) (reading_of o t) (reading-sound o t) ∙ ap (length t +◌) (events-got o cs)
events-got o (Call.lost ∷ cs) = events-got o cs
events-got o (Call.handed ∷ cs) = events-got o cs
events-got o (Call.close ∷ cs) = refl

-- ---- the rule's bytes
verdict-bytes : (w c : Bool) (q : Fault) (s : Stamp) (y : Layer) (b : Bool) (n : ℕ) → bytes_in (verdict w c q s y b n) ≡ n
verdict-bytes w true (Some k) s y b n = refl
verdict-bytes w true None s y b n = go (eqb n 0) b
  where
    go : (c b : Bool) → bytes_in (cond c (Entry.Dropped Empty n) (handed_out b (record { len = n; stamp = s; layer = y }))) ≡ n
    go true b = refl
    go false true = refl
    go false false = refl
verdict-bytes true false q s y b n = refl
verdict-bytes false false (Some k) s y b n = refl
verdict-bytes false false None s y b n = refl

abbrev bytes_of_items : List Item → ℕ
bytes_of_items xs = total bytes_in (map entry_of xs)

abbrev size_of : List Seen → ℕ
size_of [] = 0
size_of (t ∷ ts) = length t.load + size_of ts

data-size : (ts : List Seen) → length (data_of ts) ≡ size_of ts
data-size [] = refl
data-size (t ∷ ts) = length-append t.load (data_of ts) ∙ ap (length t.load +◌) (data-size ts)

strays-bytes : (ts : List Seen) → bytes_of_items (strays ts) ≡ size_of ts
strays-bytes [] = refl
strays-bytes (t ∷ ts) = ap (length t.load +◌) (strays-bytes ts)

split-size : (o : Opening) (ts : List Seen) → size_of (frame_of o ts) + size_of (stray_of o ts) ≡ size_of ts
split-size o [] = refl
split-size o (t ∷ ts) = go (closes o t) (split-size o ts)
  where
    go : (b : Bool) → size_of (frame_of o ts) + size_of (stray_of o ts) ≡ size_of ts → length t.load + size_of (cond b [] (frame_of o ts)) + size_of (cond b ts (stray_of o ts)) ≡ length t.load + size_of ts
    go true e = omega arith
    go false e = omega arith

abbrev sizes : List (List Seen) → ℕ
sizes [] = 0
sizes (r ∷ rs) = size_of r + sizes rs

ahead-size : (t : Seen) (rs : List (List Seen)) → sizes (ahead t rs) ≡ length t.load + sizes rs
ahead-size t [] = omega arith
ahead-size t ([] ∷ rs) = omega arith
ahead-size t ((u ∷ us) ∷ rs) = go (same t u)
  where
    go : (b : Bool) → sizes (cond b ((t ∷ u ∷ us) ∷ rs) ((t ∷ []) ∷ (u ∷ us) ∷ rs)) ≡ length t.load + sizes ((u ∷ us) ∷ rs)
    go true = omega arith
    go false = omega arith

runs-size : (ts : List Seen) → sizes (runs ts) ≡ size_of ts
runs-size [] = refl
runs-size (t ∷ ts) = ahead-size t (runs ts) ∙ ap (length t.load +◌) (runs-size ts)

judge-bytes : (o : Opening) (p l : Bool) (r : List Seen) → bytes_of_items (judge o p l r) ≡ size_of r
judge-bytes o p l r =
    let f : List Seen = frame_of o r in
    omega (arith, verdict-bytes (p && l) (complete o l f) (fault o f) (first_stamp f) (last_layer f) (still_of f) (length (data_of f)), data-size f, strays-bytes (stray_of o r), split-size o r)

judged-bytes : (o : Opening) (p : Bool) (rs : List (List Seen)) → bytes_of_items (judged o p rs) ≡ sizes rs
judged-bytes o p [] = refl
judged-bytes o p (r ∷ rs) =
    ap (total bytes_in) (map-append (judge o p (nothing rs) r) (judged o p rs))
    ∙ total-append bytes_in (map entry_of (judge o p (nothing rs) r)) (map entry_of (judged o p rs))
    ∙ omega (arith, judge-bytes o p (nothing rs) r, judged-bytes o p rs)

readable-bytes : (b : Bool) (es : List Event) → size_of (readables b es) + total bytes_in (loose es) ≡ gotten es
readable-bytes b [] = refl
readable-bytes b (idle ∷ es) = omega (arith, readable-bytes b es)
readable-bytes b (unreadable n ∷ es) = omega (arith, readable-bytes true es)
readable-bytes b (missing ∷ es) = omega (arith, readable-bytes true es)
readable-bytes b (readable h d ∷ es) = omega (arith, readable-bytes false es)
readable-bytes b (mark ∷ es) = readable-bytes b es

pub entries-bytes : (o : Opening) (cs : List Call) → total bytes_in (entries o cs) ≡ received cs
entries-bytes o cs =
    let es : List Event = events o cs in
    let rs : List (List Seen) = runs (readables false es) in
    total-append bytes_in (map entry_of (frames_by o cs)) (loose es)
    ∙ omega (arith, judged-bytes o (is_open cs) rs, runs-size (readables false es), readable-bytes false es)
    ∙ events-got o cs

-- ---- the accounts hold them all
over_add : (f g : Account → ℕ) (ks : List Account) → over (λ a. f a + g a) ks ≡ over f ks + over g ks
over_add f g [] = refl
over_add f g (k ∷ ks) = omega (arith, over_add f g ks)

over_zero : (ks : List Account) → over (λ a. 0) ks ≡ 0
over_zero [] = refl
over_zero (k ∷ ks) = omega (arith, over_zero ks)

part-one : (e : Entry) → over (λ a. part_in (place_of a) e) accounts ≡ bytes_in e
part-one (Entry.Delivered d) = omega arith
part-one (Entry.Still d) = omega arith
part-one (Entry.Dropped Gap n) = omega arith
part-one (Entry.Dropped Error n) = omega arith
part-one (Entry.Dropped Clock n) = omega arith
part-one (Entry.Dropped Mixed n) = omega arith
part-one (Entry.Dropped Long n) = omega arith
part-one (Entry.Dropped Cut n) = omega arith
part-one (Entry.Dropped Empty n) = omega arith
part-one (Entry.UnderWay n) = omega arith
part-one (Entry.Stray n) = omega arith
part-one (Entry.Unreadable n) = omega arith
part-one (Entry.Headers n) = omega arith
part-one Entry.Lost = omega arith
part-one Entry.Idle = omega arith

pub over-all : (es : List Entry) → over (λ a. total (part_in (place_of a)) es) accounts ≡ total bytes_in es
over-all [] = over_zero accounts
over-all (e ∷ es) = over_add (λ a. part_in (place_of a) e) (λ a. total (part_in (place_of a)) es) accounts ∙ omega (arith, part-one e, over-all es)
