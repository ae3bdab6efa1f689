-- A trace is good, bad or refused exactly when its records say so; and what is printed of it is what they say.
use Prim.Native.Nat.{ℕ, ◌+◌, ◌≤◌}
use mathlib.Core.Path.{◌≡◌, refl, sym, ◌∙◌, ap, subst}
use mathlib.Core.Bool.{Bool, true, false, cond, ◌||◌}
use mathlib.Core.List.{List, [], ◌∷◌, ◌++◌, map, append_assoc, append-nil}
use mathlib.Core.Logic.{◌⊎◌, inl, inr, ◌↔◌}
use native.Mathlib.Omega.{arith}
use lib.ListN.{length}
use borrow.Author.Tests.{le-ltb, ltb-false}
use Rattle.rules.proofs.Rows.{or-first, or-second}
use Rattle.sizes.specs.declared.Opening.{Opening}
use Rattle.sizes.specs.Framing.{by_eof}
use Rattle.sizes.specs.Sizes.{sizes_broken}
use Rattle.session_rules.specs.Refusals.{taken_most}
use Rattle.session_rules.specs.declared.Session.{Session}
use Rattle.session_rules.specs.Refusals.{ledger_of}
use Rattle.session_rules.specs.Call.{Call}
use Rattle.books.specs.Rule.{entries, numbers_of}
use Rattle.books.proofs.Histories.{numbers-taken}
use Rattle.records.specs.declared.Form.{Form}
use Rattle.records.specs.Record.{record_bad}
use Rattle.trace.specs.Record.{record_call}
use Rattle.trace.specs.Trace.{new_trace, traced, print_by, report_of}
use Rattle.trace.specs.Standing.{closed_in, count_in, bad_after, past_after, state_after, state_of, good_after, good_records, printed_by, offers_of, AllGood, IsBad, IsPast, Stands, Before, GoodOnes}
use Rattle.trace.specs.declared.State.{State}
use Rattle.trace.specs.declared.State.TheVariants.{Good, Bad, Refused}
use Rattle.trace.proofs.Standing.{and, state-right, session-right}

-- ---- a list with one record more, cut at a record: at the last one, or before it
record AtLast (rs : List (List ℕ)) (r : List ℕ) (before : List (List ℕ)) (x : List ℕ) : Type 0 where
  pub all : before ≡ rs
  pub this : x ≡ r

heads : (x y : List ℕ) (xs ys : List (List ℕ)) → ◌≡◌ {A = List (List ℕ)} (x ∷ xs) (y ∷ ys) → x ≡ y
heads x y xs ys e = cc

tails : (x y : List ℕ) (xs ys : List (List ℕ)) → ◌≡◌ {A = List (List ℕ)} (x ∷ xs) (y ∷ ys) → xs ≡ ys
tails x y xs ys e = cc

some : (before : List (List ℕ)) (x : List ℕ) (rest : List (List ℕ)) → [] ≡ before ++ (x ∷ rest) → ⊥
some [] x rest e = let z : ◌≡◌ {A = ℕ} 0 1 = cc in omega arith
some (y ∷ before) x rest e = let z : ◌≡◌ {A = ℕ} 0 1 = cc in omega arith

cut-and : (rs : List (List ℕ)) (r : List ℕ) (before : List (List ℕ)) (x : List ℕ) (rest : List (List ℕ)) → and rs r ≡ before ++ (x ∷ rest)
    → AtLast rs r before x ⊎ ((more : List (List ℕ)) × (rs ≡ before ++ (x ∷ more)))
cut-and [] r [] x rest e = inl (record { all = refl; this = sym (heads r x [] rest e) })
cut-and [] r (y ∷ before) x rest e = absurd (some before x rest (tails r y [] (before ++ (x ∷ rest)) e))
cut-and (q ∷ rs) r [] x rest e = inr (rs, ap (◌∷ rs) (heads q x (and rs r) rest e))
cut-and (q ∷ rs) r (y ∷ before) x rest e = go (heads q y (and rs r) (before ++ (x ∷ rest)) e) (cut-and rs r before x rest (tails q y (and rs r) (before ++ (x ∷ rest)) e))
  where
    go : q ≡ y → AtLast rs r before x ⊎ ((more : List (List ℕ)) × (rs ≡ before ++ (x ∷ more))) → AtLast (q ∷ rs) r (y ∷ before) x ⊎ ((more : List (List ℕ)) × (q ∷ rs ≡ y ∷ (before ++ (x ∷ more))))
    go h (inl w) = inl (record { all = λ i. sym h i ∷ w.all i; this = w.this })
    go h (inr w) = inr (w.0, λ i. h i ∷ w.1 i)

module _ (f : Form) where
  -- ---- one good record more
  good-and : (rs : List (List ℕ)) (r : List ℕ) → AllGood f rs → bad_after f rs r ≡ false → past_after rs r ≡ false → AllGood f (and rs r)
  good-and rs r g e h = record {
    none-bad = λ before x rest c. bad before x (cut-and rs r before x rest c);
    none_after = λ before x rest c. close before x (cut-and rs r before x rest c);
    few = ltb-false taken_most (count_in (and rs r)) h;
  }
    where
      bad : (before : List (List ℕ)) (x : List ℕ) → AtLast rs r before x ⊎ ((more : List (List ℕ)) × (rs ≡ before ++ (x ∷ more))) → record_bad f x ≡ false
      bad before x (inl w) = ap (record_bad f) w.this ∙ or-second (closed_in rs) (record_bad f r) e
      bad before x (inr w) = g.none-bad before x w.0 w.1

      close : (before : List (List ℕ)) (x : List ℕ) → AtLast rs r before x ⊎ ((more : List (List ℕ)) × (rs ≡ before ++ (x ∷ more))) → closed_in before ≡ false
      close before x (inl w) = ap closed_in w.all ∙ or-first (closed_in rs) (record_bad f r) e
      close before x (inr w) = g.none_after before x w.0 w.1

  good_none : AllGood f []
  good_none = record { none-bad = λ before x rest c. absurd (some before x rest c); none_after = λ before x rest c. absurd (some before x rest c); few = omega arith }

  -- ---- a good beginning is passed over
  count-grows : (rs qs : List (List ℕ)) → count_in rs ≤ count_in (rs ++ qs)
  count-grows [] qs = omega arith
  count-grows (r ∷ rs) qs = omega (arith, count-grows rs qs)

  module _ (rs : List (List ℕ)) (r : List ℕ) (rest : List (List ℕ)) (g : AllGood f (rs ++ (r ∷ rest))) where
    not-bad : bad_after f rs r ≡ false
    not-bad = ap (◌|| record_bad f r) (g.none_after rs r rest refl) ∙ g.none-bad rs r rest refl

    not-past : past_after rs r ≡ false
    not-past = le-ltb taken_most (count_in (and rs r)) (omega (arith, g.few, count-grows (and rs r) rest, ap count_in (append_assoc rs (r ∷ []) rest)))

  skip : (before rest rs : List (List ℕ)) → AllGood f (rs ++ before) → state_after f rs (before ++ rest) ≡ state_after f (rs ++ before) rest
  skip [] rest rs g = ap (λ (l : List (List ℕ)). state_after f l rest) (sym (append-nil rs))
  skip (r ∷ before) rest rs g =
      rw (not-bad rs r before g, not-past rs r before g)
      (skip before rest (and rs r) (subst (AllGood f) (sym (append_assoc rs (r ∷ []) before)) g) ∙ ap (λ (l : List (List ℕ)). state_after f l rest) (append_assoc rs (r ∷ []) before))

  -- ---- EXACTLY WHEN
  stands : (more rs : List (List ℕ)) → AllGood f rs → Stands f (rs ++ more) (state_after f rs more)
  stands [] rs g = rw (append-nil rs) g
  stands (r ∷ more) rs g = go (bad_after f rs r) refl (past_after rs r) refl (stands more (and rs r))
    where
      go : (x : Bool) → bad_after f rs r ≡ x → (y : Bool) → past_after rs r ≡ y → (AllGood f (and rs r) → Stands f (and rs r ++ more) (state_after f (and rs r) more))
          → Stands f (rs ++ (r ∷ more)) (cond x (Bad (length rs + 1)) (cond y (Refused 52 (length rs + 1)) (state_after f (and rs r) more)))
      go true e y h rec = record { before = rs; this = r; rest = more; cut = refl; good = g; wrong = e; number = refl }
      go false e true h rec = (refl, record { before = rs; this = r; rest = more; cut = refl; good = g; wrong = (e, h); number = refl })
      go false e false h rec = subst (λ (l : List (List ℕ)). Stands f l (state_after f (and rs r) more)) (append_assoc rs (r ∷ []) more) (rec (good-and rs r g e h))

  at-bad : (rs : List (List ℕ)) (r : List ℕ) (more : List (List ℕ)) → IsBad f rs r → state_after f rs (r ∷ more) ≡ Bad (length rs + 1)
  at-bad rs r more e = rw e

  at-past : (rs : List (List ℕ)) (r : List ℕ) (more : List (List ℕ)) → IsPast f rs r → state_after f rs (r ∷ more) ≡ Refused 52 (length rs + 1)
  at-past rs r more e = rw (e.0, e.1)

  decided : (rs : List (List ℕ)) (x : State) → Stands f rs x → state_of f rs ≡ x
  decided rs Good g = ap (state_after f []) (sym (append-nil rs)) ∙ skip rs [] [] g
  decided rs (Bad n) w =
      ap (state_after f []) w.cut ∙ skip w.before (w.this ∷ w.rest) [] w.good ∙ at-bad w.before w.this w.rest w.wrong ∙ ap Bad (sym w.number)
  decided rs (Refused k n) q =
      let w = q.1 in
      ap (state_after f []) w.cut ∙ skip w.before (w.this ∷ w.rest) [] w.good ∙ at-past w.before w.this w.rest w.wrong
      ∙ ap (Refused 52) (sym w.number)
      ∙ ap (λ (j : ℕ). Refused j n) (sym q.0)

  pub state-exactly : (rs : List (List ℕ)) (x : State) → (state_of f rs ≡ x) ↔ Stands f rs x
  state-exactly rs x = (λ e. subst (Stands f rs) e (stands rs [] good_none), decided rs x)

  -- ---- the good records: all before the one that decides
  good-ones : (more rs : List (List ℕ)) → GoodOnes (rs ++ more) (state_after f rs more) (rs ++ good_after f rs more)
  good-ones [] rs = refl
  good-ones (r ∷ more) rs = go (bad_after f rs r) (past_after rs r) (good-ones more (and rs r))
    where
      here : Before (rs ++ (r ∷ more)) (rs ++ []) (length rs + 1)
      here = record { rest = r ∷ more; cut = ap (◌++ (r ∷ more)) (sym (append-nil rs)); number = ap (λ (l : List (List ℕ)). length l + 1) (sym (append-nil rs)) }

      go : (x y : Bool) → GoodOnes (and rs r ++ more) (state_after f (and rs r) more) (and rs r ++ good_after f (and rs r) more)
          → GoodOnes (rs ++ (r ∷ more)) (cond x (Bad (length rs + 1)) (cond y (Refused 52 (length rs + 1)) (state_after f (and rs r) more))) (rs ++ cond x [] (cond y [] (r ∷ good_after f (and rs r) more)))
      go true y rec = here
      go false true rec = here
      go false false rec =
          rw (sym (append_assoc rs (r ∷ []) more), sym (append_assoc rs (r ∷ []) (good_after f (and rs r) more))) rec

  pub good-records : (rs : List (List ℕ)) → GoodOnes rs (state_of f rs) (good_records f rs)
  good-records rs = good-ones rs []

  -- and they are good
  goods : (more rs : List (List ℕ)) → AllGood f rs → AllGood f (rs ++ good_after f rs more)
  goods [] rs g = rw (append-nil rs) g
  goods (r ∷ more) rs g = go (bad_after f rs r) refl (past_after rs r) refl (goods more (and rs r))
    where
      go : (x : Bool) → bad_after f rs r ≡ x → (y : Bool) → past_after rs r ≡ y → (AllGood f (and rs r) → AllGood f (and rs r ++ good_after f (and rs r) more))
          → AllGood f (rs ++ cond x [] (cond y [] (r ∷ good_after f (and rs r) more)))
      go true e y h rec = rw (append-nil rs) g
      go false e true h rec = rw (append-nil rs) g
      go false e false h rec = rw (sym (append_assoc rs (r ∷ []) (good_after f (and rs r) more))) (rec (good-and rs r g e h))

  pub good-records-good : (rs : List (List ℕ)) → AllGood f (good_records f rs)
  good-records-good rs = goods rs [] good_none

  -- A TRACE of either form, read with any sizes that a session can be opened with and D1 of the framing byte set
  module _ (o : Opening) (sizes : sizes_broken o ≡ false) (eof : by_eof o ≡ true) where
    pub trace-exactly : (rs : List (List ℕ)) (x : State) → ((traced f (new_trace o) rs).state ≡ x) ↔ Stands f rs x
    trace-exactly rs x = rw (state-right f o sizes eof rs) (state-exactly rs x)

    -- THE LEDGER so far, whether a record decides or not, is the frame rule's for the calls of the good records
    pub ledger-right : (rs : List (List ℕ)) → (ledger_of (traced f (new_trace o) rs).session).numbers ≡ numbers_of (entries o (map (record_call f) (good_records f rs)))
    ledger-right rs =
        let w = session-right f o sizes eof rs in
        ap (λ (s : Session). (ledger_of s).numbers) w.session
        ∙ numbers-taken o (offers_of f o (good_records f rs))
        ∙ ap (λ (cs : List Call). numbers_of (entries o cs)) w.calls

    -- and WHAT IS PRINTED of it
    pub print-right : (rs : List (List ℕ))
        → ((report_of (traced f (new_trace o) rs)).state ≡ state_of f rs) × ((report_of (traced f (new_trace o) rs)).ledger.numbers ≡ printed_by f o (state_of f rs) rs)
    unfolding report_of
    print-right rs = go (traced f (new_trace o) rs).state (state-right f o sizes eof rs)
      where
        s : Session
        s = (traced f (new_trace o) rs).session

        go : (x : State) → x ≡ state_of f rs → ((print_by x s).state ≡ state_of f rs) × ((print_by x s).ledger.numbers ≡ printed_by f o (state_of f rs) rs)
        go Good e =
            let all : good_records f rs ≡ rs = subst (λ (x : State). GoodOnes rs x (good_records f rs)) (sym e) (good-records rs) in
            (e, ledger-right rs ∙ ap (λ (l : List (List ℕ)). numbers_of (entries o (map (record_call f) l))) all ∙ ap (λ (y : State). printed_by f o y rs) e)
        go (Bad n) e = (e, ap (λ (y : State). printed_by f o y rs) e)
        go (Refused k n) e = (e, ap (λ (y : State). printed_by f o y rs) e)
