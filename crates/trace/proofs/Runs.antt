-- Many records in a row: what the loop over them keeps.
use Prim.Native.Nat.{ℕ, zero, suc, min, ◌<◌}
use mathlib.Core.Path.{◌≡◌, refl, sym, ◌∙◌, ap}
use mathlib.Core.Bool.{Bool, true, false, true≢false, ◌||◌}
use mathlib.Core.List.{List, [], ◌∷◌, ◌++◌}
use lib.ListN.{length, drop}
use Rattle.rules.proofs.Lists.{no-elements}
use Rattle.rules.proofs.Chunks.{chunk-parts}
use Rattle.session_rules.specs.declared.Session.{Session}
use Rattle.session_rules.specs.Refusals.{posted_of}
use Rattle.session_rules.specs.declared.Rest.{Rest}
use Rattle.books.proofs.Sized.{next-sized}
use Rattle.records.specs.declared.Form.{Form}
use Rattle.records.specs.Form.{size_of}
use Rattle.records.specs.Record.{record_bad, records_of}
use Rattle.records.proofs.Records.{records-more}
use Rattle.trace.specs.Record.{record_ask}
use Rattle.trace.specs.Trace.{offer_of, offered, read_by, step_of, traced, good_of}
use Rattle.trace.specs.declared.State.{State}
use Rattle.trace.specs.declared.State.TheVariants.{Good, Bad, Refused}
use Rattle.trace.specs.declared.Trace.{Trace}
use Rattle.trace.specs.declared.Going.{Going}
use Rattle.session_rules.specs.Accounts.{number_count}
use Rattle.session_rules.proofs.Places.{Sized}
use Rattle.session.specs.Inner.{whole_of}
use Rattle.session_rules.specs.Calls.{refusal, next}
use Rattle.trace.specs.Inner.{going_with, good_with, is_decided}

-- ---- a chunk of what is left is the first record
chunk-records : (f : Form) (left x more : List ℕ) → left ≡ x ++ more → length x ≡ min (size_of f) (length left) → 0 < length left → records_of f left ≡ x ∷ records_of f more
chunk-records f left x more e size some =
    let parts = chunk-parts (size_of f) left x more e size in
    records-more f left some ∙ ap (λ (l : List ℕ). l ∷ records_of f (drop (size_of f) left)) parts.0 ∙ ap (λ (l : List ℕ). x ∷ records_of f l) parts.1

-- ---- a trace that went wrong stays as it is
not_good : (f : Form) (t : Trace) → is_decided t.state ≡ true → (rs : List (List ℕ)) → traced f t rs ≡ t
unfolding step_of
not_good f t e rs = go t.state refl e
  where
    bad : (n : ℕ) (qs : List (List ℕ)) → traced f (record { session = t.session; state = Bad n }) qs ≡ record { session = t.session; state = Bad n }
    bad n [] = refl
    bad n (q ∷ qs) = bad n qs

    refused : (k n : ℕ) (qs : List (List ℕ)) → traced f (record { session = t.session; state = Refused k n }) qs ≡ record { session = t.session; state = Refused k n }
    refused k n [] = refl
    refused k n (q ∷ qs) = refused k n qs

    with-state : (z : State) → t.state ≡ z → ◌≡◌ {A = Trace} t (record { session = t.session; state = z })
    with-state z q = λ i. record { session = t.session; state = q i }

    go : (z : State) → t.state ≡ z → is_decided t.state ≡ true → traced f t rs ≡ t
    go Good q d = absurd (true≢false (sym d ∙ ap is_decided q))
    go (Bad n) q d = rw (with-state (Bad n) q) (bad n rs)
    go (Refused k n) q d = rw (with-state (Refused k n) q) (refused k n rs)

-- ---- the numbers stay as many
module _ (f : Form) (s : Session) (z : Sized (posted_of s)) where
  pub step-sized : (r : List ℕ) → Sized (posted_of (step_of f (record { session = s; state = Good }) r).session)
  unfolding step_of
  step-sized r = go (s.rest.closed || record_bad f r)
    where
      by_row : (k : ℕ) (n : Session) → Sized (posted_of n) → Sized (posted_of (offered k s n).session)
      by_row zero n h = h
      by_row (suc k) n h = z

      go : (x : Bool) → Sized (posted_of (read_by x s (record_ask f r)).session)
      go true = z
      go false = by_row (refusal s (offer_of s (record_ask f r))) (next s (offer_of s (record_ask f r))) (next-sized s z (offer_of s (record_ask f r)))

-- ---- the loop
-- what is left to be read, from where the trace stands, leads to the same as all of it
pub record Reading-on (f : Form) (t : Trace) (l : List ℕ) (r : Rest) (m : List ℕ) (left : List ℕ) : Type 0 where
  pub trace : traced f (good_with r m) (records_of f left) ≡ traced f t (records_of f l)
  pub sized : length m ≡ number_count

good-state : (z : State) → is_decided z ≡ false → z ≡ Good
good-state Good e = refl
good-state (Bad n) e = absurd (true≢false e)
good-state (Refused k n) e = absurd (true≢false e)

module _ (f : Form) (t : Trace) (l : List ℕ) where
  -- a trace that is good goes on
  pub run-follows : (x : Bool) (y : Trace) → x ≡ is_decided t.state → x ≡ false → y ≡ traced f (good_of t.session) (records_of f l) → y ≡ traced f t (records_of f l)
  run-follows x y e d p = p ∙ ap (λ (v : Trace). traced f v (records_of f l)) same
    where
      same : good_of t.session ≡ t
      same = λ i. record { session = t.session; state = sym (good-state t.state (sym e ∙ d)) i }

  -- a trace that is not good reads nothing
  pub run-stays : (x : Bool) → x ≡ is_decided t.state → x ≡ true → t ≡ traced f t (records_of f l)
  run-stays x e d = sym (not_good f t (sym e ∙ d) (records_of f l))

  -- a good one begins at the first record
  pub run-begins : (r : Rest) (m left : List ℕ) → t ≡ good_with r m → left ≡ l → length m ≡ number_count → Reading-on f t l r m left
  run-begins r m left e q z = record {
    trace = ap (λ (y : List ℕ). traced f (good_with r m) (records_of f y)) q ∙ sym (ap (λ (y : Trace). traced f y (records_of f l)) e);
    sized = z;
  }

  module _ (r : Rest) (m left : List ℕ) (on : Reading-on f t l r m left) where
    -- all is read
    pub run_ends : length left ≡ 0 → good_with r m ≡ traced f t (records_of f l)
    unfolding records_of
    run_ends h = sym (ap (λ (y : List ℕ). traced f (good_with r m) (records_of f y)) (no-elements left h)) ∙ on.trace

    -- one record more
    module _ (x more : List ℕ) (e : left ≡ x ++ more) (size : length x ≡ min (size_of f) (length left)) (some : 0 < length left)
        (g : Going) (k : List ℕ) (p : going_with g k ≡ step_of f (good_with r m) x) where
      after-trace : traced f (going_with g k) (records_of f more) ≡ traced f t (records_of f l)
      after-trace =
          ap (λ (y : Trace). traced f y (records_of f more)) p
          ∙ sym (ap (λ (y : List (List ℕ)). traced f (good_with r m) y) (chunk-records f left x more e size some))
          ∙ on.trace

      -- it decides
      pub run-decided : (b : Bool) → b ≡ is_decided g.state → b ≡ true → going_with g k ≡ traced f t (records_of f l)
      run-decided b q d = sym (not_good f (going_with g k) (sym q ∙ d) (records_of f more)) ∙ after-trace

      -- the trace goes on
      pub run_on : (b : Bool) → b ≡ is_decided g.state → b ≡ false → Reading-on f t l g.rest k more
      run_on b q d =
          record {
            trace = ap (λ (y : Trace). traced f y (records_of f more)) good ∙ after-trace;
            sized = ap (λ (y : Trace). length y.session.numbers) p ∙ step-sized f (whole_of r m) on.sized x;
          }
        where
          good : good_with g.rest k ≡ going_with g k
          good = λ i. record { session = whole_of g.rest k; state = sym (good-state g.state (sym q ∙ d)) i }
