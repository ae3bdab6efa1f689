-- WHICH FRAMES ENDED: the statements of specs/Endings, proved, for every opening (both framings, both kinds of header) and any offers.
use Rattle.std.proofs.Common.{◌≡◌, List, [], ◌∷◌, ◌++◌, map, sym, refl, ap, ◌∙◌, append_assoc, append-nil}
use Rattle.sizes.specs.declared.Opening.{Opening}
use Rattle.session_rules.specs.declared.Session.{Session}
use Rattle.session_rules.specs.Session.{fresh}
use Rattle.session_rules.specs.Call.{Call}
use Rattle.session_rules.specs.Calls.{Offer, next, after}
use Rattle.books.specs.Rule.{entry_of, frames_by}
use Rattle.books.specs.Offers.{list_of}
use Rattle.books.proofs.Proved.{nothing-missing}
use Rattle.endings.specs.declared.Ending.{Ending}
use Rattle.endings.specs.Endings.{endings_of, entries_say, said}
use Rattle.endings.specs.Inner.{list_in, told_by, all_told}
use Rattle.endings.proofs.OneMore.{one_more}
use Rattle.endings.proofs.Entries.{of-entries}

-- 1. No frame has ended before the first call.
pub no-endings : (o : Opening) → endings_of o [] ≡ []
no-endings o = refl

-- 2. WHAT IS TOLD OF AN OFFER is what the list has more of with it: the frames that this call ended, in order, with their length and first stamp. A refused offer is no part of the list,
-- and nothing is told of it.
pub ends-right : (o : Opening) (xs : List Offer) (x : Offer) → endings_of o (list_of o (xs ++ (x ∷ []))) ≡ endings_of o (list_of o xs) ++ list_in (told_by (after (fresh o) xs) x)
ends-right o xs x =
    ap (endings_of o) (sym (nothing-missing.list o (xs ++ (x ∷ []))))
    ∙ one_more o xs x
    ∙ ap (λ (cs : List Call). endings_of o cs ++ list_in (told_by (after (fresh o) xs) x)) (nothing-missing.list o xs)

-- 3. So what is told of all offers, one after the other, is THE FRAMES THAT ENDED: each of them once, in order, and no other.
after_more : (s : Session) (xs : List Offer) (x : Offer) → after s (xs ++ (x ∷ [])) ≡ next (after s xs) x
after_more s [] x = refl
after_more s (y ∷ xs) x = after_more (next s y) xs x

from : (o : Opening) (xs ys : List Offer) → endings_of o (list_of o (ys ++ xs)) ≡ endings_of o (list_of o ys) ++ all_told (after (fresh o) ys) xs
from o [] ys = ap (λ (l : List Offer). endings_of o (list_of o l)) (append-nil ys) ∙ sym (append-nil (endings_of o (list_of o ys)))
from o (x ∷ xs) ys =
    let e : List Ending = endings_of o (list_of o ys) in
    ap (λ (l : List Offer). endings_of o (list_of o l)) (sym (append_assoc ys (x ∷ []) xs))
    ∙ from o xs (ys ++ (x ∷ []))
    ∙ ap (λ (s : Session). endings_of o (list_of o (ys ++ (x ∷ []))) ++ all_told s xs) (after_more (fresh o) ys x)
    ∙ ap (◌++ all_told (next (after (fresh o) ys) x) xs) (ends-right o ys x)
    ∙ append_assoc e (list_in (told_by (after (fresh o) ys) x)) (all_told (next (after (fresh o) ys) x) xs)

pub all_told_lem : (o : Opening) (xs : List Offer) → all_told (fresh o) xs ≡ endings_of o (list_of o xs)
all_told_lem o xs = sym (from o xs [])

-- 4. The frames that ended are the frame rule's entries: each delivered frame and still with its length and stamp, each dropped one with its reason and its bytes, in order,
-- and no other.
pub entries-of-endings : (o : Opening) (cs : List Call) → map said (endings_of o cs) ≡ entries_say (map entry_of (frames_by o cs))
entries-of-endings = of-entries
