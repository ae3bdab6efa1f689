-- The frames that ended are the frame rule's entries: each delivered, still or dropped one, in order, and no other.
use Rattle.std.specs.Prelude.{None, Some}
use Rattle.session_rules.specs.Options.{Fault, Layer, Stamp}
use Rattle.std.proofs.Common.{◌≡◌, ℕ, Bool, true, false, cond, ◌&&◌, eqb, List, [], ◌∷◌, ◌++◌, map, length, sym, refl, ap, ◌∙◌}
use Rattle.sizes.specs.declared.Opening.{Opening}
use Rattle.session_rules.specs.declared.Reason.TheVariants.{Empty}
use Rattle.session_rules.specs.declared.Delivery.{Delivery}
use Rattle.session_rules.specs.Entry.{Entry}
use Rattle.session_rules.specs.Call.{Call}
use Rattle.books.specs.Rule.{events, is_open, Seen, readables, runs, frame_of, stray_of, complete, data_of, first_stamp, last_layer, still_of, fault, handed_out, verdict, Item, strays, nothing, judged, entry_of, frames_by}
use Rattle.endings.specs.declared.Ending.{Ending}
use Rattle.endings.specs.Endings.{ending_in, endings_in, endings_of, entry_says, entries_say, said}

-- what the rule makes of one frame
one-frame : (way c : Bool) (q : Fault) (s : Stamp) (y : Layer) (b : Bool) (n : ℕ) (xs : List Ending)
    → map said (ending_in (verdict way c q s y b n) n s ++ xs) ≡ entry_says (verdict way c q s y b n) ++ map said xs
one-frame way true (Some w) s y b n xs = refl
one-frame way true None s y b n xs = go (eqb n 0) b
  where
    d : Delivery
    d = record { len = n; stamp = s; layer = y }

    go : (z c : Bool)
        → map said (ending_in (cond z (Entry.Dropped Empty n) (handed_out c d)) n s ++ xs) ≡ entry_says (cond z (Entry.Dropped Empty n) (handed_out c d)) ++ map said xs
    go true c = refl
    go false true = refl
    go false false = refl
one-frame true false q s y b n xs = refl
one-frame false false (Some w) s y b n xs = refl
one-frame false false None s y b n xs = refl

-- the strays after it
past : (ts : List Seen) (is : List Item) → entries_say (map entry_of (strays ts ++ is)) ≡ entries_say (map entry_of is)
past [] is = refl
past (t ∷ ts) is = past ts is

all-frames : (o : Opening) (p : Bool) (rs : List (List Seen)) → map said (endings_in o p rs) ≡ entries_say (map entry_of (judged o p rs))
all-frames o p [] = refl
all-frames o p (r ∷ rs) =
    let f : List Seen = frame_of o r in
    let l : Bool = nothing rs in
    let e : Entry = verdict (p && l) (complete o l f) (fault o f) (first_stamp f) (last_layer f) (still_of f) (length (data_of f)) in
    one-frame (p && l) (complete o l f) (fault o f) (first_stamp f) (last_layer f) (still_of f) (length (data_of f)) (endings_in o p rs)
    ∙ ap (entry_says e ++◌) (all-frames o p rs ∙ sym (past (stray_of o r) (judged o p rs)))

pub of-entries : (o : Opening) (cs : List Call) → map said (endings_of o cs) ≡ entries_say (map entry_of (frames_by o cs))
of-entries o cs = all-frames o (is_open cs) (runs (readables false (events o cs)))
