-- The record at which it stops is the one that the ledger program names: `bad record N`.
use Rattle.std.proofs.Common.{◌≡◌, ℕ, suc, ◌+◌, Bool, true, false, cond, ◌||◌, eqb, List, [], ◌∷◌, ◌++◌, length, refl, ap, ◌∙◌, arith, length-append}
use Rattle.rules.proofs.Rows.{or-first}
use Rattle.records.specs.declared.Form.TheVariants.{Short}
use Rattle.records.specs.Record.{kind_at, record_bad, records_of}
use Rattle.trace.specs.declared.State.TheVariants.{Bad, Refused}
use Rattle.trace.specs.Standing.{closed_in, past_after, state_after, state_of}
use Rattle.convert.specs.Convert.{stop_from, stopped_at}
use Rattle.convert.specs.Claim.{StopsFor}
use Rattle.convert.proofs.Claims.{closed-more}

stops-for : (c : Bool) (n : ℕ) (before rs : List (List ℕ)) → closed_in before ≡ c → n ≡ length before + 1 → StopsFor (state_after Short before rs) (stop_from c n rs)
stops-for c n before [] e m = refl
stops-for c n before (r ∷ rs) e m = rw e (go (c || record_bad Short r) refl (past_after before r) (λ h. stops-for (eqb (kind_at r) 2) (suc n) (before ++ (r ∷ [])) rs h longer))
  where
    longer : suc n ≡ length (before ++ (r ∷ [])) + 1
    longer = omega (arith, m, length-append before (r ∷ []))

    go : (b : Bool) → (c || record_bad Short r) ≡ b → (p : Bool)
        → (closed_in (before ++ (r ∷ [])) ≡ eqb (kind_at r) 2 → StopsFor (state_after Short (before ++ (r ∷ [])) rs) (stop_from (eqb (kind_at r) 2) (suc n) rs))
        → StopsFor (cond b (Bad (length before + 1)) (cond p (Refused 52 (length before + 1)) (state_after Short (before ++ (r ∷ [])) rs)))
        (cond b n (stop_from (eqb (kind_at r) 2) (suc n) rs))
    go true q p k = m
    go false q true k = tt
    go false q false k = k (closed-more before r ∙ ap (◌|| eqb (kind_at r) 2) (e ∙ or-first c (record_bad Short r) q))

pub stops-where-bad : (l : List ℕ) → StopsFor (state_of Short (records_of Short l)) (stopped_at l)
unfolding stopped_at
stops-where-bad l = stops-for false 1 [] (records_of Short l) refl refl
