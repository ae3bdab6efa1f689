-- One event more, or close: what it changes of the last run, or adds after it, is all that it changes of the frames that ended.
use Rattle.std.proofs.Common.{◌≡◌, Bool, true, false, cond, List, [], ◌∷◌, ◌++◌, sym, refl, ap, ◌∙◌, append_assoc, append-nil}
use Rattle.sizes.specs.declared.Opening.{Opening}
use Rattle.books.specs.Rule.{Seen, same, ahead, runs, nothing}
use Rattle.books.specs.Answer.{last_of}
use Rattle.books.proofs.OneMore.{on_last, on_runs, added, added_to}
use Rattle.endings.specs.declared.Ending.{Ending}
use Rattle.endings.specs.Endings.{ending_from, endings_in}
use Rattle.endings.proofs.Frames.{none-none}

-- no run is empty
abbrev pub Filled : List (List Seen) → Type 0
Filled [] = Unit {0}
Filled ([] ∷ rs) = ⊥
Filled ((u ∷ us) ∷ rs) = Filled rs

ahead-filled : (t : Seen) (rs : List (List Seen)) → Filled rs → Filled (ahead t rs)
ahead-filled t [] f = tt
ahead-filled t ([] ∷ rs) f = absurd f
ahead-filled t ((u ∷ us) ∷ rs) f = go (same t u)
  where
    go : (b : Bool) → Filled (cond b ((t ∷ u ∷ us) ∷ rs) ((t ∷ []) ∷ (u ∷ us) ∷ rs))
    go true = f
    go false = f

pub runs-filled : (ts : List Seen) → Filled (runs ts)
runs-filled [] = tt
runs-filled (t ∷ ts) = ahead-filled t (runs ts) (runs-filled ts)

module _ (o : Opening) where
  -- the runs before the last are as they were
  before : (p : Bool) (r : List Seen) (a b x : List Ending) → a ≡ b ++ x → ending_from o p false r ++ a ≡ (ending_from o p false r ++ b) ++ x
  before p r a b x e = ap (ending_from o p false r ++◌) e ∙ sym (append_assoc (ending_from o p false r) b x)

  -- a run that goes on, or another after it
  module _ (t : Seen) (x : List Ending) where
    added-some : (rs : List (List Seen)) (q : List Seen) → nothing (added_to (q ∷ rs) t) ≡ false
    added-some [] [] = refl
    added-some [] (u ∷ us) = go (same u t)
      where
        go : (b : Bool) → nothing (cond b ((u ∷ (us ++ (t ∷ []))) ∷ []) ((u ∷ us) ∷ (t ∷ []) ∷ [])) ≡ false
        go true = refl
        go false = refl
    added-some (p ∷ rs) q = refl

    pub added-ends : (rs : List (List Seen)) → endings_in o true (added (last_of rs) t) ≡ ending_from o true true (last_of rs) ++ x
        → endings_in o true (added_to rs t) ≡ endings_in o true rs ++ x
    added-ends [] e = e ∙ ap (◌++ x) (none-none o)
    added-ends (r ∷ []) e = e ∙ ap (◌++ x) (sym (append-nil (ending_from o true true r)))
    added-ends (r ∷ (q ∷ rs)) e =
        ap (λ (b : Bool). ending_from o true b r ++ endings_in o true (added_to (q ∷ rs) t)) (added-some rs q)
        ∙ before true r (endings_in o true (added_to (q ∷ rs) t)) (endings_in o true (q ∷ rs)) x (added-ends (q ∷ rs) e)

  -- the last run changed
  module _ (f : Seen → Seen) (x : List Ending) where
    changed-some : (rs : List (List Seen)) (q : List Seen) → nothing (on_runs f (q ∷ rs)) ≡ false
    changed-some [] q = refl
    changed-some (p ∷ rs) q = refl

    pub changed-ends : (rs : List (List Seen)) → ending_from o true true (on_last f (last_of rs)) ≡ ending_from o true true (last_of rs) ++ x
        → endings_in o true (on_runs f rs) ≡ endings_in o true rs ++ x
    changed-ends [] e = sym (none-none o) ∙ e ∙ ap (◌++ x) (none-none o)
    changed-ends (r ∷ []) e =
        append-nil (ending_from o true true (on_last f r)) ∙ e ∙ ap (◌++ x) (sym (append-nil (ending_from o true true r)))
    changed-ends (r ∷ (q ∷ rs)) e =
        ap (λ (b : Bool). ending_from o true b r ++ endings_in o true (on_runs f (q ∷ rs))) (changed-some rs q)
        ∙ before true r (endings_in o true (on_runs f (q ∷ rs))) (endings_in o true (q ∷ rs)) x (changed-ends (q ∷ rs) e)

  -- the session closed
  abbrev pub Closes : List Seen → List Ending → Type 0
  Closes [] x = x ≡ []
  Closes (u ∷ us) x = ending_from o false true (u ∷ us) ≡ ending_from o true true (u ∷ us) ++ x

  pub closed-ends : (rs : List (List Seen)) (x : List Ending) → Filled rs → Closes (last_of rs) x → endings_in o false rs ≡ endings_in o true rs ++ x
  closed-ends [] x f e = sym e
  closed-ends ([] ∷ rs) x f e = absurd f
  closed-ends ((u ∷ us) ∷ []) x f e =
      let r : List Seen = u ∷ us in
      append-nil (ending_from o false true r) ∙ e ∙ ap (◌++ x) (sym (append-nil (ending_from o true true r)))
  closed-ends ((u ∷ us) ∷ (q ∷ rs)) x f e =
      before true (u ∷ us) (endings_in o false (q ∷ rs)) (endings_in o true (q ∷ rs)) x (closed-ends (q ∷ rs) x f e)
