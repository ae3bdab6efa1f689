-- Refused calls are no part of the history: the session after any calls is the one after the calls taken and the marks; and nothing is taken after close.
use Prim.Native.Nat.{ℕ, zero, suc}
use mathlib.Core.Path.{◌≡◌, refl, sym, ◌∙◌, ap, subst}
use mathlib.Core.Bool.{Bool, true, false, cond}
use mathlib.Core.List.{List, [], ◌∷◌, ◌++◌}
use Rattle.rules.specs.Numbered.{or_else}
use Rattle.session_rules.specs.declared.Session.{Session}
use Rattle.session_rules.specs.Refusals.{record_broken}
use Rattle.session_rules.specs.declared.Outcome.{Outcome}
use Rattle.session_rules.specs.Session.{hands_out, handed_of, met_by, take_by, take_of, lost_by, lost_of, close_by, close_of}
use Rattle.session_rules.proofs.Refused.{took-taken}
use Rattle.session_rules.specs.Call.{Call}
use Rattle.session_rules.specs.Calls.{Offer, refusal, next, after, call_by, call_of, unless, taken, next_call, run}

-- ---- what a take that is not refused is in the list: a transfer, or the mark where a frame is handed out
as-listed : (s : Session) (t : List ℕ) (k : ℕ) (c : Bool) → k ≡ 0 → hands_out s t ≡ c → call_by (take_by k s t).outcome t ≡ cond c Call.handed (Call.transfer t)
unfolding handed_of
as-listed s t k true e h = ap (λ (n : ℕ). call_by (take_by n s t).outcome t) e ∙ ap (λ (d : Bool). call_by (met_by d s t).outcome t) h
as-listed s t k false e h =
    ap (λ (n : ℕ). call_by (take_by n s t).outcome t) e
    ∙ ap (λ (d : Bool). call_by (met_by d s t).outcome t) h
    ∙ ap (λ (x : Outcome). call_by x t) (took-taken s t).1

pub listed : (s : Session) (b t : List ℕ) (c : Bool) → refusal s (Offer.take b t) ≡ 0 → hands_out s t ≡ c → call_of s (Offer.take b t) ≡ cond c Call.handed (Call.transfer t)
unfolding take_of
listed s b t c e h = as-listed s t (refusal s (Offer.take b t)) c e h

pub next-met : (s : Session) (b t : List ℕ) (c : Bool) → refusal s (Offer.take b t) ≡ 0 → hands_out s t ≡ c → next s (Offer.take b t) ≡ next_call s (cond c Call.handed (Call.transfer t))
unfolding take_of
next-met s b t true e h = ap (λ (k : ℕ). (take_by k s t).session) e ∙ ap (λ (d : Bool). (met_by d s t).session) h
next-met s b t false e h = ap (λ (k : ℕ). (take_by k s t).session) e ∙ ap (λ (d : Bool). (met_by d s t).session) h

-- a call that is not refused is taken, or its mark is, and a refused one leaves the session as it was
pub next-taken : (s : Session) (x : Offer) → refusal s x ≡ 0 → next s x ≡ next_call s (call_of s x)
unfolding lost_of close_of
next-taken s (Offer.take b t) e = next-met s b t (hands_out s t) e refl ∙ ap (next_call s) (sym (listed s b t (hands_out s t) e refl))
next-taken s Offer.lost e = ap (λ (k : ℕ). (lost_by k s).session) e
next-taken s Offer.close e = ap (λ (k : ℕ). (close_by k s).session) e

pub next-refused : (s : Session) (x : Offer) (k : ℕ) → refusal s x ≡ suc k → next s x ≡ s
unfolding take_of lost_of close_of
next-refused s (Offer.take b t) k e = ap (λ (n : ℕ). (take_by n s t).session) e
next-refused s Offer.lost k e = ap (λ (n : ℕ). (lost_by n s).session) e
next-refused s Offer.close k e = ap (λ (n : ℕ). (close_by n s).session) e

pub after_run : (s : Session) (xs : List Offer) → after s xs ≡ run s (taken s xs)
after_run s [] = refl
after_run s (x ∷ xs) = go (refusal s x) refl (after_run (next s x) xs)
  where
    go : (k : ℕ) → refusal s x ≡ k → after (next s x) xs ≡ run (next s x) (taken (next s x) xs) → after (next s x) xs ≡ run s (unless k (call_of s x) (taken (next s x) xs))
    go zero e f = f ∙ ap (λ (r : Session). run r (taken (next s x) xs)) (next-taken s x e)
    go (suc k) e f = f ∙ ap (λ (r : Session). run r (taken (next s x) xs)) (next-refused s x k e)

-- ---- after close
or_some : (b : Bool) (k n m : ℕ) → n ≡ suc m → (j : ℕ) × (or_else b (suc k) n ≡ suc j)
or_some true k n m e = (k, refl)
or_some false k n m e = (m, e)

shut-refuses : (s : Session) (x : Offer) → s.rest.closed ≡ true → (k : ℕ) × (refusal s x ≡ suc k)
shut-refuses s (Offer.take b t) e = or_some (record_broken s) 49 _ 52 (rw e)
shut-refuses s Offer.lost e = or_some (record_broken s) 49 _ 52 (rw e)
shut-refuses s Offer.close e = or_some (record_broken s) 49 _ 52 (rw e)

taken_none : (s : Session) (xs : List Offer) → s.rest.closed ≡ true → taken s xs ≡ []
taken_none s [] e = refl
taken_none s (x ∷ xs) e =
    let r = shut-refuses s x e in
    let n = next-refused s x r.0 r.1 in
    ap (λ (k : ℕ). unless k (call_of s x) (taken (next s x) xs)) r.1 ∙ ap (λ (q : Session). taken q xs) n ∙ taken_none s xs e

-- nothing follows close
abbrev pub Last : List Call → Type 0
Last [] = Unit {0}
Last (c ∷ cs) = ⊥

-- and the marks are where the session hands out: before a transfer of which it does; a transfer taken is none of those
abbrev pub Hands : Session → Type 0
Hands s = (t : List ℕ) × (hands_out s t ≡ true)

abbrev pub Proper : Session → List Call → Type 0
Proper s [] = Unit {0}
Proper s (Call.transfer t ∷ cs) = (hands_out s t ≡ false) × Proper (next_call s (Call.transfer t)) cs
Proper s (Call.lost ∷ cs) = Proper (next_call s Call.lost) cs
Proper s (Call.handed ∷ cs) = Hands s × Proper (next_call s Call.handed) cs
Proper s (Call.close ∷ cs) = Last cs

last_of : (cs : List Call) → cs ≡ [] → Last cs
last_of cs e = rw e tt

pub taken-proper : (s : Session) (xs : List Offer) → Proper s (taken s xs)
taken-proper s [] = tt
taken-proper s (x ∷ xs) = go x (refusal s x) refl (taken-proper (next s x) xs)
  where
    met : (b t : List ℕ) (c : Bool) → refusal s (Offer.take b t) ≡ 0 → hands_out s t ≡ c → (cs : List Call) → Proper (next s (Offer.take b t)) cs
        → Proper s (cond c Call.handed (Call.transfer t) ∷ cs)
    met b t true e h cs p = ((t, h), subst (λ (r : Session). Proper r cs) (next-met s b t true e h) p)
    met b t false e h cs p = (h, subst (λ (r : Session). Proper r cs) (next-met s b t false e h) p)

    go : (y : Offer) (k : ℕ) → refusal s y ≡ k → Proper (next s y) (taken (next s y) xs) → Proper s (unless k (call_of s y) (taken (next s y) xs))
    go y (suc k) e p = subst (λ (r : Session). Proper r (taken (next s y) xs)) (next-refused s y k e) p
    go (Offer.take b t) zero e p =
        let cs : List Call = taken (next s (Offer.take b t)) xs in
        subst (λ (c : Call). Proper s (c ∷ cs)) (sym (listed s b t (hands_out s t) e refl)) (met b t (hands_out s t) e refl cs p)
    go Offer.lost zero e p = subst (λ (r : Session). Proper r (taken (next s Offer.lost) xs)) (next-taken s Offer.lost e) p
    go Offer.close zero e p = last_of (taken (next s Offer.close) xs) (ap (λ (q : Session). taken q xs) (next-taken s Offer.close e) ∙ taken_none (next_call s Call.close) xs refl)

last_none : (cs : List Call) → Last cs → cs ≡ []
last_none [] p = refl
last_none (c ∷ cs) p = absurd p

pub close-last : (before rest : List Call) (s : Session) → Proper s (before ++ (Call.close ∷ rest)) → rest ≡ []
close-last [] rest s p = last_none rest p
close-last (Call.transfer t ∷ cs) rest s p = close-last cs rest (next_call s (Call.transfer t)) p.1
close-last (Call.lost ∷ cs) rest s p = close-last cs rest (next_call s Call.lost) p
close-last (Call.handed ∷ cs) rest s p = close-last cs rest (next_call s Call.handed) p.1
close-last (Call.close ∷ []) rest s p = absurd p
close-last (Call.close ∷ (c ∷ cs)) rest s p = absurd p
