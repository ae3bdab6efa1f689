-- Record after record, as the code has it, is what the words say.
use Rattle.std.proofs.Common.{◌≡◌, ℕ, zero, suc, ◌+◌, ◌%◌, ◌^◌, ◌<◌, Bool, true, false, cond, ◌||◌, eqb, List, [], ◌∷◌, ◌++◌, length, take, drop, sym, refl, ap, ◌∙◌, subst, true≢false, arith, lt-ltb}
use Rattle.records.specs.declared.Form.TheVariants.{Short}
use Rattle.records.specs.Record.{kind_at, record_bad, records_by, records_of}
use Rattle.cuts.specs.Cuts.{cut_by, cut_of}
use Rattle.convert.specs.declared.Converter.{Converter}
use Rattle.convert.specs.Convert.{long_for, convert_from, converted, stop_from, stopped_at}
use Rattle.convert.specs.Inner.{new_converter, stop_of, on_of, one_by, text_by, one_of, text_of, all_of, texts_of}
use Rattle.convert.specs.Run.{StoppedAt}

-- ---- the cuts of 64 bytes are the short records
cuts-by : (k : ℕ) (l : List ℕ) → cut_by 64 k l ≡ records_by Short k l
cuts-by zero l = refl
cuts-by (suc k) [] = refl
cuts-by (suc k) (b ∷ bs) = ap (take 64 (b ∷ bs) ∷◌) (cuts-by k (drop 64 (b ∷ bs)))

pub cuts_are : (l : List ℕ) → cut_of 64 l ≡ records_of Short l
unfolding cut_of records_of
cuts_are l = cuts-by (length l) l

-- ---- where it has stopped it stays, and writes nothing
module _ (c : Converter) (h : c.stopped ≡ true) where
  one-stays : (r : List ℕ) → one_of c r ≡ c
  one-stays r = rw h

  text-stays : (r : List ℕ) → text_of c r ≡ []
  text-stays r = rw h

  pub stays : (rs : List (List ℕ)) → all_of c rs ≡ c
  stays [] = refl
  stays (r ∷ rs) = ap (λ (d : Converter). all_of d rs) (one-stays r) ∙ stays rs

  pub stays-silent : (rs : List (List ℕ)) → texts_of c rs ≡ []
  stays-silent [] = refl
  stays-silent (r ∷ rs) = ap (◌++ texts_of (one_of c r) rs) (text-stays r) ∙ ap (λ (d : Converter). texts_of d rs) (one-stays r) ∙ stays-silent rs

-- ---- what it writes
pub texts-are : (c : Converter) (rs : List (List ℕ)) → c.stopped ≡ false → texts_of c rs ≡ convert_from c.closed rs
texts-are c [] h = refl
texts-are c (r ∷ rs) h =
    ap (λ (s : Bool). text_by s (c.closed || record_bad Short r) r ++ texts_of (one_by s (c.closed || record_bad Short r) c r) rs) h
    ∙ go (c.closed || record_bad Short r) (texts-are (on_of c r) rs refl)
  where
    go : (b : Bool) → texts_of (on_of c r) rs ≡ convert_from (eqb (kind_at r) 2) rs
        → text_by false b r ++ texts_of (one_by false b c r) rs ≡ cond b (255 ∷ []) (long_for r ++ convert_from (eqb (kind_at r) 2) rs)
    go true k = ap (255 ∷◌) (stays-silent (stop_of c) refl rs)
    go false k = ap (long_for r ++◌) k

-- ---- where it stops
next-number : (c n : ℕ) → c ≡ n % 2 ^ 64 → (c + 1) % 2 ^ 64 ≡ suc n % 2 ^ 64
next-number c n e = omega (arith, e)

pub stops-are : (c : Converter) (n : ℕ) (rs : List (List ℕ)) → c.stopped ≡ false → 0 < n → c.number ≡ n % 2 ^ 64 → StoppedAt (all_of c rs) (stop_from c.closed n rs)
stops-are c n [] h p e = record { stopped = h; number = λ s. absurd (true≢false (sym s ∙ h)) }
stops-are c n (r ∷ rs) h p e =
    subst (λ (s : Bool). StoppedAt (all_of (one_by s (c.closed || record_bad Short r) c r) rs) (stop_from c.closed n (r ∷ rs))) (sym h)
    (go (c.closed || record_bad Short r) (stops-are (on_of c r) (suc n) rs refl (omega arith) (next-number c.number n e)))
  where
    go : (b : Bool) → StoppedAt (all_of (on_of c r) rs) (stop_from (eqb (kind_at r) 2) (suc n) rs)
        → StoppedAt (all_of (one_by false b c r) rs) (cond b n (stop_from (eqb (kind_at r) 2) (suc n) rs))
    go true k = rw (stays (stop_of c) refl rs) (record { stopped = sym (lt-ltb 0 n p); number = λ s. e })
    go false k = k

-- it stops at one of the records, or at none
stop-most : (closed : Bool) (n : ℕ) (rs : List (List ℕ)) → 0 < n → stop_from closed n rs < n + length rs
stop-most closed n [] p = omega arith
stop-most closed n (r ∷ rs) p = go (closed || record_bad Short r) (stop-most (eqb (kind_at r) 2) (suc n) rs (omega arith))
  where
    go : (b : Bool) → stop_from (eqb (kind_at r) 2) (suc n) rs < suc n + length rs → cond b n (stop_from (eqb (kind_at r) 2) (suc n) rs) < n + suc (length rs)
    go true k = omega arith
    go false k = omega (arith, k)

-- WHERE FEWER THAN 2 ^ 64 RECORDS CAME the number is the record's
pub number_is : (c : Converter) (l : List ℕ) → length (records_of Short l) < 2 ^ 64 → StoppedAt c (stopped_at l) → c.stopped ≡ true → c.number ≡ stopped_at l
unfolding stopped_at
number_is c l h s e = let m = stop-most false 1 (records_of Short l) (omega arith) in omega (arith, h, m, s.number e)

-- ---- of a whole input
pub all-written : (l : List ℕ) → texts_of new_converter (cut_of 64 l) ≡ converted l
unfolding converted
all-written l = ap (texts_of new_converter) (cuts_are l) ∙ texts-are new_converter (records_of Short l) refl

pub all-stopped : (l : List ℕ) → StoppedAt (all_of new_converter (cut_of 64 l)) (stopped_at l)
unfolding stopped_at
all-stopped l = rw (cuts_are l) (stops-are new_converter 1 (records_of Short l) refl (omega arith) refl)
