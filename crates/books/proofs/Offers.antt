-- What a session refuses, and the list of its calls, are what the rule says of the offers alone.
use Prim.Native.Nat.{ℕ, zero, suc, ◌+◌}
use mathlib.Core.Path.{◌≡◌, refl, sym, ◌∙◌, ap}
use mathlib.Core.Bool.{Bool, true, false, cond, not, ◌||◌}
use mathlib.Core.List.{List, [], ◌∷◌, ◌++◌, append_assoc, append-nil}
use native.Mathlib.Omega.{arith}
use native.Mathlib.Nat.{zero-add}
use Rattle.sizes.specs.declared.Opening.{Opening}
use Rattle.sizes.specs.Sizes.{frame_size_broken, sizes_broken}
use Rattle.session_rules.specs.declared.Reading.{Reading}
use Rattle.session_rules.specs.declared.Reading.TheVariants.{Idle, Unreadable, Readable}
use Rattle.session_rules.specs.Transfer.{reading_of}
use Rattle.session_rules.specs.Rule50.{rule50}
use Rattle.session_rules.specs.declared.Session.{Session}
use Rattle.session_rules.specs.Refusals.{record_broken}
use Rattle.session_rules.specs.Session.{fresh, no_session, read_of, took_by, took_of, handed_of, hands_out}
use Rattle.session_rules.specs.Call.{Call}
use Rattle.session_rules.specs.Calls.{Offer, refusal, next, after, call_of, unless, taken, next_call, run}
use Rattle.books.specs.Rule.{is_open}
use Rattle.books.specs.Offers.{taken_in, refused_by, listed_as, list_from, list_of}
use Rattle.books.proofs.Taken.{Proper, taken-proper, after_run, next-taken, next-refused, listed}
use Rattle.books.proofs.Answers.{taken_more}
use Rattle.books.proofs.Sound.{took-taken, after-opening}
use Rattle.books.proofs.ByList.{hands-as}
use Rattle.books.proofs.Histories.{sound-taken}

-- ---- what a refused opening gives
none-refused : (x : Offer) → refusal no_session x ≡ 50
unfolding rule50 sizes_broken frame_size_broken
none-refused (Offer.take b t) = refl
none-refused Offer.lost = refl
none-refused Offer.close = refl

none_after : (xs : List Offer) → after no_session xs ≡ no_session
none_after [] = refl
none_after (x ∷ xs) = ap (λ (s : Session). after s xs) (next-refused no_session x 49 (none-refused x)) ∙ none_after xs

pub none-taken : (xs : List Offer) (x : Offer) → refusal (after no_session xs) x ≡ 50
none-taken xs x = ap (λ (s : Session). refusal s x) (none_after xs) ∙ none-refused x

-- ---- closed, and how many are taken
or-false : (b : Bool) → b ≡ (b || false)
or-false true = refl
or-false false = refl

or-true : (b : Bool) → true ≡ (b || true)
or-true true = refl
or-true false = refl

took-closed : (s : Session) (t : List ℕ) (r : Reading) → (took_by r s t).session.rest.closed ≡ s.rest.closed
unfolding read_of
took-closed s t Idle = refl
took-closed s t (Unreadable k) = refl
took-closed s t (Readable h) = refl

run-closed : (cs : List Call) (s : Session) → Proper s cs → (run s cs).rest.closed ≡ (s.rest.closed || not (is_open cs))
unfolding took_of handed_of
run-closed [] s p = or-false s.rest.closed
run-closed (Call.transfer t ∷ cs) s p =
    run-closed cs (next_call s (Call.transfer t)) p.1 ∙ ap (λ (b : Bool). b || not (is_open cs)) (took-closed s t (reading_of s.rest.opening t))
run-closed (Call.lost ∷ cs) s p = run-closed cs (next_call s Call.lost) p
run-closed (Call.handed ∷ cs) s p = run-closed cs (next_call s Call.handed) p.1
run-closed (Call.close ∷ []) s p = or-true s.rest.closed
run-closed (Call.close ∷ (c ∷ cs)) s p = absurd p

run-taken : (cs : List Call) (s : Session) → Proper s cs → (run s cs).rest.taken ≡ s.rest.taken + taken_in cs
unfolding took_of handed_of
run-taken [] s p = omega arith
run-taken (Call.transfer t ∷ cs) s p = omega (arith, run-taken cs (next_call s (Call.transfer t)) p.1, took-taken s t (reading_of s.rest.opening t))
run-taken (Call.lost ∷ cs) s p = omega (arith, run-taken cs (next_call s Call.lost) p)
run-taken (Call.handed ∷ cs) s p = run-taken cs (next_call s Call.handed) p.1
run-taken (Call.close ∷ []) s p = omega arith
run-taken (Call.close ∷ (c ∷ cs)) s p = absurd p

module _ (o : Opening) (xs : List Offer) where
  abbrev cs : List Call
  cs = taken (fresh o) xs

  abbrev here : Session
  here = after (fresh o) xs

  closed_is : here.rest.closed ≡ not (is_open cs)
  closed_is = ap (λ (s : Session). s.rest.closed) (after_run (fresh o) xs) ∙ run-closed cs (fresh o) (taken-proper (fresh o) xs)

  taken_is : here.rest.taken ≡ taken_in cs
  taken_is = ap (λ (s : Session). s.rest.taken) (after_run (fresh o) xs) ∙ run-taken cs (fresh o) (taken-proper (fresh o) xs) ∙ zero-add _

  -- 50 is the opening's alone
  pub broken-is : record_broken here ≡ sizes_broken o
  unfolding rule50
  broken-is = go (sizes_broken o) refl
    where
      go : (b : Bool) → sizes_broken o ≡ b → record_broken here ≡ b
      go true e = rw (after-opening o xs, e)
      go false e = sound-taken o xs e

  refusal_is : (x : Offer) → refusal here x ≡ refused_by o cs x
  refusal_is (Offer.take b t) = rw (broken-is, closed_is, taken_is, after-opening o xs) refl
  refusal_is Offer.lost = rw (broken-is, closed_is, taken_is) refl
  refusal_is Offer.close = rw (broken-is, closed_is) refl

  -- how an offer stands in the list
  called : (x : Offer) → refusal here x ≡ 0 → call_of here x ≡ listed_as o cs x
  called (Offer.take b t) ok = listed here b t (hands_out here t) ok refl ∙ ap (λ (c : Bool). cond c Call.handed (Call.transfer t)) (hands-as o xs b t ok)
  called Offer.lost ok = refl
  called Offer.close ok = refl

  one_more : (x : Offer) → taken (fresh o) (xs ++ (x ∷ [])) ≡ cs ++ unless (refused_by o cs x) (listed_as o cs x) []
  one_more x = taken_more xs x (fresh o) ∙ ap (cs ++◌) (go (refusal here x) refl ∙ ap (λ (k : ℕ). unless k (listed_as o cs x) []) (refusal_is x))
    where
      go : (k : ℕ) → refusal here x ≡ k → unless (refusal here x) (call_of here x) [] ≡ unless (refusal here x) (listed_as o cs x) []
      go zero e = ap (λ (c : Call). unless (refusal here x) c []) (called x e)
      go (suc k) e = rw e

from : (o : Opening) (xs ys : List Offer) → taken (fresh o) (ys ++ xs) ≡ list_from o (taken (fresh o) ys) xs
from o [] ys = ap (taken (fresh o)) (append-nil ys)
from o (x ∷ xs) ys =
    ap (taken (fresh o)) (sym (append_assoc ys (x ∷ []) xs))
    ∙ from o xs (ys ++ (x ∷ []))
    ∙ ap (λ (l : List Call). list_from o l xs) (one_more o ys x)

-- THE LIST of a session's calls is the rule's
pub list-is : (o : Opening) (xs : List Offer) → taken (fresh o) xs ≡ list_of o xs
list-is o xs = from o xs []

-- and so is all that the list says of the session
module _ (o : Opening) (xs : List Offer) where
  pub closed-listed : (after (fresh o) xs).rest.closed ≡ not (is_open (list_of o xs))
  closed-listed = closed_is o xs ∙ ap (λ (l : List Call). not (is_open l)) (list-is o xs)

  pub taken-listed : (after (fresh o) xs).rest.taken ≡ taken_in (list_of o xs)
  taken-listed = taken_is o xs ∙ ap taken_in (list-is o xs)

  pub refused-listed : (x : Offer) → refusal (after (fresh o) xs) x ≡ refused_by o (list_of o xs) x
  refused-listed x = refusal_is o xs x ∙ ap (λ (l : List Call). refused_by o l x) (list-is o xs)

  pub next-listed : (x : Offer) → refusal (after (fresh o) xs) x ≡ 0 → next (after (fresh o) xs) x ≡ next_call (after (fresh o) xs) (listed_as o (list_of o xs) x)
  next-listed x ok = next-taken (after (fresh o) xs) x ok ∙ ap (next_call (after (fresh o) xs)) (called o xs x ok ∙ ap (λ (l : List Call). listed_as o l x) (list-is o xs))
