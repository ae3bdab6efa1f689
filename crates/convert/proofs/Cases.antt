-- What is written, case by case: `converted` and `stopped_at` are those of the records before the first bad one.
use Rattle.std.proofs.Common.{◌≡◌, ℕ, suc, ◌+◌, Bool, true, false, cond, ◌||◌, eqb, ◌⊎◌, List, [], ◌∷◌, ◌++◌, length, sym, refl, ap, ◌∙◌, inl, inr, append_assoc, append-nil, arith, length-append}
use Rattle.text.specs.Text.{texts}
use Rattle.rules.proofs.Rows.{or-first}
use Rattle.records.specs.declared.Form.TheVariants.{Short}
use Rattle.records.specs.Record.{kind_at, record_bad, records_of}
use Rattle.trace.specs.Standing.{closed_in, bad_after}
use Rattle.convert.specs.Convert.{long_for, convert_from, converted, stop_from, stopped_at}
use Rattle.convert.specs.Words.{Converts}
use Rattle.convert.proofs.Claims.{closed-more}

heads : (x y : List ℕ) (xs ys : List (List ℕ)) → ◌≡◌ {A = List (List ℕ)} (x ∷ xs) (y ∷ ys) → x ≡ y
heads x y xs ys e = cc

tails : (x y : List ℕ) (xs ys : List (List ℕ)) → ◌≡◌ {A = List (List ℕ)} (x ∷ xs) (y ∷ ys) → xs ≡ ys
tails x y xs ys e = cc

-- the same after the records `pre`
abbrev FineFrom : List (List ℕ) → List (List ℕ) → Type 0
FineFrom pre rs = (before : List (List ℕ)) (r : List ℕ) (rest : List (List ℕ)) → rs ≡ before ++ (r ∷ rest) → bad_after Short (pre ++ before) r ≡ false

record WholeFrom (pre rs : List (List ℕ)) (out : List ℕ) (n : ℕ) : Type 0 where
  pub fine : FineFrom pre rs
  pub written : out ≡ texts long_for rs
  pub none : n ≡ 0

record CutFrom (pre rs : List (List ℕ)) (out : List ℕ) (n : ℕ) : Type 0 where
  pub before : List (List ℕ)
  pub this : List ℕ
  pub rest : List (List ℕ)
  pub cut : rs ≡ before ++ (this ∷ rest)
  pub fine : FineFrom pre before
  pub bad : bad_after Short (pre ++ before) this ≡ true
  pub written : out ≡ texts long_for before ++ (255 ∷ [])
  pub number : n ≡ suc (length pre + length before)

-- no list is cut where there is none
none : (before : List (List ℕ)) (r : List ℕ) (rest : List (List ℕ)) → [] ≡ before ++ (r ∷ rest) → ⊥
none [] r rest h = let z = ap length h in omega (arith, z)
none (b ∷ before) r rest h = let z = ap length h in omega (arith, z)

module _ (pre : List (List ℕ)) (r : List ℕ) where
  abbrev longer : List (List ℕ)
  longer = pre ++ (r ∷ [])

  fine-first : (rs : List (List ℕ)) → bad_after Short (pre ++ []) r ≡ false → FineFrom longer rs → FineFrom pre (r ∷ rs)
  fine-first rs g f [] x rest e = ap (bad_after Short (pre ++ [])) (sym (heads r x rs rest e)) ∙ g
  fine-first rs g f (b ∷ before) x rest e =
      ap (λ (l : List (List ℕ)). bad_after Short l x) (ap (λ (a : List ℕ). pre ++ (a ∷ before)) (sym (heads r b rs (before ++ (x ∷ rest)) e)) ∙ sym (append_assoc pre (r ∷ []) before))
      ∙ f before x rest (tails r b rs (before ++ (x ∷ rest)) e)

  on-first : (rs : List (List ℕ)) (out : List ℕ) (n : ℕ) → bad_after Short (pre ++ []) r ≡ false → WholeFrom longer rs out n ⊎ CutFrom longer rs out n
      → WholeFrom pre (r ∷ rs) (long_for r ++ out) n ⊎ CutFrom pre (r ∷ rs) (long_for r ++ out) n
  on-first rs out n g (inl w) = inl (record { fine = fine-first rs g w.fine; written = ap (long_for r ++◌) w.written; none = w.none })
  on-first rs out n g (inr w) =
      inr (record {
        before = r ∷ w.before;
        this = w.this;
        rest = w.rest;
        cut = ap (r ∷◌) w.cut;
        fine = fine-first w.before g w.fine;
        bad = ap (λ (l : List (List ℕ)). bad_after Short l w.this) (sym (append_assoc pre (r ∷ []) w.before)) ∙ w.bad;
        written = ap (long_for r ++◌) w.written ∙ sym (append_assoc (long_for r) (texts long_for w.before) (255 ∷ []));
        number = omega (arith, w.number, length-append pre (r ∷ []));
      })

  stop-first : (rs : List (List ℕ)) (n : ℕ) → bad_after Short (pre ++ []) r ≡ true → n ≡ suc (length pre) → CutFrom pre (r ∷ rs) (255 ∷ []) n
  stop-first rs n g m = record {
    before = [];
    this = r;
    rest = rs;
    cut = refl;
    fine = λ before x rest h. absurd (none before x rest h);
    bad = g;
    written = refl;
    number = omega (arith, m);
  }

cases : (c : Bool) (n : ℕ) (pre rs : List (List ℕ)) → closed_in pre ≡ c → n ≡ suc (length pre) → WholeFrom pre rs (convert_from c rs) (stop_from c n rs) ⊎ CutFrom pre rs (convert_from c rs) (stop_from c n rs)
cases c n pre [] e m = inl (record { fine = λ before r rest h. absurd (none before r rest h); written = refl; none = refl })
cases c n pre (r ∷ rs) e m = go (c || record_bad Short r) refl (λ h. cases (eqb (kind_at r) 2) (suc n) (pre ++ (r ∷ [])) rs h counted)
  where
    counted : suc n ≡ suc (length (pre ++ (r ∷ [])))
    counted = omega (arith, m, length-append pre (r ∷ []))

    here : (b : Bool) → (c || record_bad Short r) ≡ b → bad_after Short (pre ++ []) r ≡ b
    here b q = ap (λ (l : List (List ℕ)). closed_in l || record_bad Short r) (append-nil pre) ∙ ap (◌|| record_bad Short r) e ∙ q

    go : (b : Bool) → (c || record_bad Short r) ≡ b
        → (closed_in (pre ++ (r ∷ [])) ≡ eqb (kind_at r) 2
        → WholeFrom (pre ++ (r ∷ [])) rs (convert_from (eqb (kind_at r) 2) rs) (stop_from (eqb (kind_at r) 2) (suc n) rs)
        ⊎ CutFrom (pre ++ (r ∷ [])) rs (convert_from (eqb (kind_at r) 2) rs) (stop_from (eqb (kind_at r) 2) (suc n) rs))
        → WholeFrom pre (r ∷ rs) (cond b (255 ∷ []) (long_for r ++ convert_from (eqb (kind_at r) 2) rs)) (cond b n (stop_from (eqb (kind_at r) 2) (suc n) rs))
        ⊎ CutFrom pre (r ∷ rs) (cond b (255 ∷ []) (long_for r ++ convert_from (eqb (kind_at r) 2) rs)) (cond b n (stop_from (eqb (kind_at r) 2) (suc n) rs))
    go true q k = inr (stop-first pre r rs n (here true q) m)
    go false q k =
        on-first pre r rs (convert_from (eqb (kind_at r) 2) rs) (stop_from (eqb (kind_at r) 2) (suc n) rs) (here false q)
        (k (closed-more pre r ∙ ap (◌|| eqb (kind_at r) 2) (e ∙ or-first c (record_bad Short r) q)))

pub converts : (l : List ℕ) → Converts (records_of Short l) (converted l) (stopped_at l)
unfolding converted stopped_at
converts l = told (cases false 1 [] (records_of Short l) refl refl)
  where
    told : {rs : List (List ℕ)} {out : List ℕ} {n : ℕ} → WholeFrom [] rs out n ⊎ CutFrom [] rs out n → Converts rs out n
    told (inl w) = inl (record { fine = w.fine; written = w.written; none = w.none })
    told (inr w) = inr (record {
      before = w.before;
      this = w.this;
      rest = w.rest;
      cut = w.cut;
      fine = w.fine;
      bad = w.bad;
      written = w.written;
      number = omega (arith, w.number);
    })

-- ---- and these cases leave one answer
record Skipped (c : Bool) (n : ℕ) (pre before rest : List (List ℕ)) : Type 0 where
  pub written : convert_from c (before ++ rest) ≡ texts long_for before ++ convert_from (closed_in (pre ++ before)) rest
  pub number : stop_from c n (before ++ rest) ≡ stop_from (closed_in (pre ++ before)) (length before + n) rest

skip : (c : Bool) (n : ℕ) (pre before rest : List (List ℕ)) → closed_in pre ≡ c → FineFrom pre before → Skipped c n pre before rest
skip c n pre [] rest e f =
    let z : closed_in (pre ++ []) ≡ c = ap closed_in (append-nil pre) ∙ e in
    record { written = ap (λ (b : Bool). convert_from b rest) (sym z); number = ap (λ (b : Bool). stop_from b n rest) (sym z) ∙ ap (λ (k : ℕ). stop_from (closed_in (pre ++ [])) k rest) same }
  where
    same : n ≡ 0 + n
    same = omega arith
skip c n pre (r ∷ before) rest e f =
    let g : (c || record_bad Short r) ≡ false = ap (◌|| record_bad Short r) (sym e ∙ ap closed_in (sym (append-nil pre))) ∙ f [] r before refl in
    let h : closed_in (pre ++ (r ∷ [])) ≡ eqb (kind_at r) 2 = closed-more pre r ∙ ap (◌|| eqb (kind_at r) 2) (e ∙ or-first c (record_bad Short r) g) in
    let w = skip (eqb (kind_at r) 2) (suc n) (pre ++ (r ∷ [])) before rest h later in
    let a : (pre ++ (r ∷ [])) ++ before ≡ pre ++ (r ∷ before) = append_assoc pre (r ∷ []) before in
    record {
      written =
          ap (λ (b : Bool). cond b (255 ∷ []) (long_for r ++ convert_from (eqb (kind_at r) 2) (before ++ rest))) g
          ∙ ap (long_for r ++◌) (w.written ∙ ap (λ (l : List (List ℕ)). texts long_for before ++ convert_from (closed_in l) rest) a)
          ∙ sym (append_assoc (long_for r) (texts long_for before) (convert_from (closed_in (pre ++ (r ∷ before))) rest));
      number =
          ap (λ (b : Bool). cond b n (stop_from (eqb (kind_at r) 2) (suc n) (before ++ rest))) g
          ∙ w.number
          ∙ ap (λ (l : List (List ℕ)). stop_from (closed_in l) (length before + suc n) rest) a
          ∙ ap (λ (k : ℕ). stop_from (closed_in (pre ++ (r ∷ before))) k rest) count;
    }
  where
    later : FineFrom (pre ++ (r ∷ [])) before
    later b x more h = ap (λ (l : List (List ℕ)). bad_after Short l x) (append_assoc pre (r ∷ []) b) ∙ f (r ∷ b) x more (ap (r ∷◌) h)

    count : length before + suc n ≡ suc (length before) + n
    count = omega arith

one_answer : (rs : List (List ℕ)) (out : List ℕ) (n : ℕ) → Converts rs out n → (out ≡ convert_from false rs) × (n ≡ stop_from false 1 rs)
one_answer rs out n (inl w) =
    let s = skip false 1 [] rs [] refl w.fine in (
      w.written ∙ sym (ap (convert_from false) (sym (append-nil rs)) ∙ s.written ∙ append-nil (texts long_for rs)),
      w.none ∙ sym (ap (stop_from false 1) (sym (append-nil rs)) ∙ s.number),
    )
one_answer rs out n (inr w) =
    let s = skip false 1 [] w.before (w.this ∷ w.rest) refl w.fine in (
      w.written
          ∙ sym
          (ap (convert_from false) w.cut ∙ s.written
          ∙ ap (λ (b : Bool). texts long_for w.before ++ cond b (255 ∷ []) (long_for w.this ++ convert_from (eqb (kind_at w.this) 2) w.rest)) w.bad),
      w.number
          ∙ sym
          (ap (stop_from false 1) w.cut ∙ s.number
          ∙ ap (λ (b : Bool). cond b (length w.before + 1) (stop_from (eqb (kind_at w.this) 2) (suc (length w.before + 1)) w.rest)) w.bad ∙ one),
    )
  where
    one : length w.before + 1 ≡ suc (length w.before)
    one = omega arith

pub converts-unique : (rs : List (List ℕ)) (out₁ out₂ : List ℕ) (n₁ n₂ : ℕ) → Converts rs out₁ n₁ → Converts rs out₂ n₂ → (out₁ ≡ out₂) × (n₁ ≡ n₂)
converts-unique rs out₁ out₂ n₁ n₂ u v =
    let a = one_answer rs out₁ n₁ u in
    let b = one_answer rs out₂ n₂ v in
    (a.0 ∙ sym b.0, a.1 ∙ sym b.1)
