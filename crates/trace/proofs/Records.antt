-- One record of a good trace: bad, refused or taken.
use Prim.Native.Nat.{ℕ, suc}
use mathlib.Core.Path.{◌≡◌, refl, ◌∙◌, ap}
use mathlib.Core.Bool.{Bool, true, false, ◌||◌}
use mathlib.Core.List.{List, [], ◌∷◌}
use Rattle.session_rules.specs.declared.Session.{Session}
use Rattle.records.specs.declared.Form.{Form}
use Rattle.records.specs.Record.{record_bad}
use Rattle.trace.specs.Record.{record_ask}
use Rattle.trace.specs.Trace.{number_of, offer_of, offered, read_by, step_of, traced, good_of}
use Rattle.trace.specs.declared.State.TheVariants.{Bad, Refused}
use Rattle.trace.specs.declared.Trace.{Trace}
use Rattle.session_rules.specs.Calls.{refusal, next}

-- ---- a trace that went wrong stays as it is
stays-bad : (f : Form) (rs : List (List ℕ)) (s : Session) (n : ℕ) → traced f (record { session = s; state = Bad n }) rs ≡ record { session = s; state = Bad n }
unfolding step_of
stays-bad f [] s n = refl
stays-bad f (r ∷ rs) s n = stays-bad f rs s n

stays-refused : (f : Form) (rs : List (List ℕ)) (s : Session) (k n : ℕ) → traced f (record { session = s; state = Refused k n }) rs ≡ record { session = s; state = Refused k n }
unfolding step_of
stays-refused f [] s k n = refl
stays-refused f (r ∷ rs) s k n = stays-refused f rs s k n

-- ---- one record, and the rest of the trace after it
module _ (f : Form) (s : Session) (r : List ℕ) where
  module _ (e : (s.rest.closed || record_bad f r) ≡ false) where
    step-refused : (k : ℕ) → refusal s (offer_of s (record_ask f r)) ≡ suc k → step_of f (good_of s) r ≡ record { session = s; state = Refused (suc k) (number_of s) }
    unfolding step_of
    step-refused k q = ap (λ (x : Bool). read_by x s (record_ask f r)) e ∙ ap (λ (n : ℕ). offered n s (next s (offer_of s (record_ask f r)))) q

    step-good : refusal s (offer_of s (record_ask f r)) ≡ 0 → step_of f (good_of s) r ≡ good_of (next s (offer_of s (record_ask f r)))
    unfolding step_of
    step-good q = ap (λ (x : Bool). read_by x s (record_ask f r)) e ∙ ap (λ (n : ℕ). offered n s (next s (offer_of s (record_ask f r)))) q

    pub on-good : refusal s (offer_of s (record_ask f r)) ≡ 0 → (rs : List (List ℕ)) → traced f (good_of s) (r ∷ rs) ≡ traced f (good_of (next s (offer_of s (record_ask f r)))) rs
    on-good q rs = ap (λ (t : Trace). traced f t rs) (step-good q)

    pub on-refused : (k : ℕ) → refusal s (offer_of s (record_ask f r)) ≡ suc k → (rs : List (List ℕ)) → traced f (good_of s) (r ∷ rs) ≡ record { session = s; state = Refused (suc k) (number_of s) }
    on-refused k q rs = ap (λ (t : Trace). traced f t rs) (step-refused k q) ∙ stays-refused f rs s (suc k) (number_of s)

  module _ (e : (s.rest.closed || record_bad f r) ≡ true) where
    step-bad : step_of f (good_of s) r ≡ record { session = s; state = Bad (number_of s) }
    unfolding step_of
    step-bad = ap (λ (x : Bool). read_by x s (record_ask f r)) e

    pub on-bad : (rs : List (List ℕ)) → traced f (good_of s) (r ∷ rs) ≡ record { session = s; state = Bad (number_of s) }
    on-bad rs = ap (λ (t : Trace). traced f t rs) step-bad ∙ stays-bad f rs s (number_of s)
