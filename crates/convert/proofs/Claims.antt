-- THE CONVERTER GIVES THE SAME PRINT, of every input and at every opening.
use Rattle.std.proofs.Common.{◌≡◌, ℕ, zero, suc, ◌+◌, Bool, true, false, cond, not, ◌&&◌, ◌||◌, eqb, ltb, ◌⊎◌, List, [], ◌∷◌, ◌++◌, map, length, drop, sym, refl, ap, ◌∙◌, subst, inl, inr, arith, length-append, take_at, drop_at, eqb-true}
use borrow.Author.Tests.{not-false}
use Rattle.rules.proofs.Rows.{or-first, or-second}
use Rattle.rules.proofs.Lists.{no-elements}
use Rattle.sizes.specs.declared.Opening.{Opening}
use Rattle.session_rules.specs.Call.{Ask, Call, heard_of}
use Rattle.books.specs.Rule.{entries, numbers_of}
use Rattle.records.specs.declared.Form.TheVariants.{Short, Long}
use Rattle.records.specs.Form.{size_of, most_of}
use Rattle.records.specs.Record.{kind_at, length_at, bytes_at, second_set, record_bad, records_of}
use Rattle.records.proofs.Fine.{fine}
use Rattle.records.proofs.Records.{records-none, records-more}
use Rattle.long_records.specs.Long.{long_size}
use Rattle.long_records.specs.Good.{GoodLong}
use Rattle.long_records.proofs.Good.{good-long}
use Rattle.trace.specs.declared.State.{State}
use Rattle.trace.specs.declared.State.TheVariants.{Good, Bad, Refused}
use Rattle.trace.specs.Record.{ask_by, record_call}
use Rattle.trace.specs.Standing.{closed_in, count_in, bad_after, past_after, state_after, state_of, good_after, good_records, printed_by, GoodOnes}
use Rattle.trace.proofs.Exactly.{good-records}
use Rattle.convert.specs.Convert.{long_for, convert_from, converted}
use Rattle.trace.specs.Trace.{ledger_sizes}
use Rattle.frame_lines.specs.declared.Show.{Show}
use Rattle.frame_lines.specs.declared.Show.TheVariants.{Nothing}
use Rattle.replay.specs.Lines.{lines_of}
use Rattle.ledger_text.specs.Report.{end_text}
use Rattle.ledger_text.specs.Print.{print_of, ledger_of}
use Rattle.convert.specs.Claim.{given, made, SamePrint}
use Rattle.convert.proofs.Branches.{data-length}

-- ---- the long record for a good short one
module _ (r : List ℕ) (g : record_bad Short r ≡ false) where
  -- a transfer, or no bytes
  empty : (kind_at r ≡ 0) ⊎ (bytes_at Short r ≡ [])
  unfolding record_bad
  empty =
      go (eqb (kind_at r) 0) (eqb (length_at Short r) 0) refl refl
      (or-first (not (eqb (kind_at r) 0) && not (eqb (length_at Short r) 0)) _
      (or-second (ltb (most_of Short) (length_at Short r)) _ (or-second (second_set Short r) _ (or-second (ltb 2 (kind_at r)) _ (or-second (not (eqb (length r) (size_of Short))) _ g)))))
    where
      go : (x y : Bool) → eqb (kind_at r) 0 ≡ x → eqb (length_at Short r) 0 ≡ y → (not x && not y) ≡ false → (kind_at r ≡ 0) ⊎ (bytes_at Short r ≡ [])
      go true y e f h = inl (eqb-true (kind_at r) 0 e)
      go false y e f h = inr (no-elements (bytes_at Short r) (data-length r g ∙ eqb-true (length_at Short r) 0 (f ∙ not-false y h)))

  long : GoodLong (kind_at r) (bytes_at Short r)
  long = good-long (kind_at r) (bytes_at Short r) (fine Short r g).kind (omega (arith, data-length r g, (fine Short r g).short)) empty

  long-call : record_call Long (long_for r) ≡ record_call Short r
  long-call = ap heard_of (go (kind_at r))
    where
      go : (k : ℕ) → ask_by Long k (long_for r) ≡ ask_by Short k r
      go zero = ap Ask.transfer long.bytes-there
      go (suc zero) = refl
      go (suc (suc k)) = refl

  -- it is the first record, and then come the others
  first-record : (more : List ℕ) → records_of Long (long_for r ++ more) ≡ long_for r ∷ records_of Long more
  first-record more =
      records-more Long (long_for r ++ more) (omega (arith, length-append (long_for r) more, long.size))
      ∙ ap (◌∷ records_of Long (drop long_size (long_for r ++ more))) (take_at (long_for r) more long_size long.size)
      ∙ ap (λ (l : List ℕ). long_for r ∷ records_of Long l) (drop_at (long_for r) more long_size long.size)

-- the byte FF is a record, and a bad one
stop-record : records_of Long (255 ∷ []) ≡ (255 ∷ []) ∷ []
unfolding records_of
stop-record = refl

stop-bad : record_bad Long (255 ∷ []) ≡ true
unfolding record_bad
stop-bad = refl

-- ---- how the two traces stand
pub closed-more : (rs : List (List ℕ)) (r : List ℕ) → closed_in (rs ++ (r ∷ [])) ≡ (closed_in rs || eqb (kind_at r) 2)
closed-more [] r = or-none (eqb (kind_at r) 2)
  where
    or-none : (b : Bool) → (b || false) ≡ b
    or-none true = refl
    or-none false = refl
closed-more (q ∷ rs) r = ap (eqb (kind_at q) 2 ||◌) (closed-more rs r) ∙ or_assoc (eqb (kind_at q) 2) (closed_in rs) (eqb (kind_at r) 2)
  where
    or_assoc : (a b c : Bool) → (a || (b || c)) ≡ ((a || b) || c)
    or_assoc true b c = refl
    or_assoc false b c = refl

count-more : (rs : List (List ℕ)) (r : List ℕ) → count_in (rs ++ (r ∷ [])) ≡ count_in rs + cond (ltb (kind_at r) 2) 1 0
count-more [] r = omega arith
count-more (q ∷ rs) r = let e = count-more rs r in omega (arith, e)

-- the long records so far, and the short ones
record Abreast (c : Bool) (As Bs : List (List ℕ)) : Type 0 where
  pub mine : closed_in As ≡ c
  pub yours : closed_in Bs ≡ c
  pub count : count_in As ≡ count_in Bs
  pub many : length As ≡ length Bs

further : (As Bs : List (List ℕ)) (r : List ℕ) → Abreast false As Bs → Abreast (eqb (kind_at r) 2) (As ++ (long_for r ∷ [])) (Bs ++ (r ∷ []))
further As Bs r a = record {
  mine = closed-more As (long_for r) ∙ ap (◌|| eqb (kind_at r) 2) a.mine;
  yours = closed-more Bs r ∙ ap (◌|| eqb (kind_at r) 2) a.yours;
  count = count-more As (long_for r) ∙ ap (◌+ cond (ltb (kind_at r) 2) 1 0) a.count ∙ sym (count-more Bs r);
  many = length-append As (long_for r ∷ []) ∙ ap (◌+ 1) a.many ∙ sym (length-append Bs (r ∷ []));
}

record Alike (As Bs ls rs : List (List ℕ)) : Type 0 where
  pub state : state_after Long As ls ≡ state_after Short Bs rs
  pub calls : map (record_call Long) (good_after Long As ls) ≡ map (record_call Short) (good_after Short Bs rs)

module _ (As Bs : List (List ℕ)) (L r : List ℕ) (ls rs : List (List ℕ)) (many : length As ≡ length Bs) where
  both-bad : bad_after Long As L ≡ true → bad_after Short Bs r ≡ true → Alike As Bs (L ∷ ls) (r ∷ rs)
  both-bad m y = record { state = rw (m, y, many); calls = rw (m, y) }

  both-good : bad_after Long As L ≡ false → bad_after Short Bs r ≡ false → count_in (As ++ (L ∷ [])) ≡ count_in (Bs ++ (r ∷ [])) → record_call Long L ≡ record_call Short r
      → Alike (As ++ (L ∷ [])) (Bs ++ (r ∷ [])) ls rs → Alike As Bs (L ∷ ls) (r ∷ rs)
  both-good m y n p w = record {
    state = rw (m, y, n, many, w.state);
    calls = rw (m, y, n) (go (past_after Bs r));
  }
    where
      go : (b : Bool) → map (record_call Long) (cond b [] (L ∷ good_after Long (As ++ (L ∷ [])) ls)) ≡ map (record_call Short) (cond b [] (r ∷ good_after Short (Bs ++ (r ∷ [])) rs))
      go true = refl
      go false = λ i. p i ∷ w.calls i

alike : (c : Bool) (As Bs rs : List (List ℕ)) → Abreast c As Bs → Alike As Bs (records_of Long (convert_from c rs)) rs
alike c As Bs [] a = subst (λ (ls : List (List ℕ)). Alike As Bs ls []) (sym (records-none Long)) (record { state = refl; calls = refl })
alike c As Bs (r ∷ rs) a = go (c || record_bad Short r) refl (λ A B. alike (eqb (kind_at r) 2) A B rs)
  where
    yours : (b : Bool) → (c || record_bad Short r) ≡ b → bad_after Short Bs r ≡ b
    yours b q = ap (◌|| record_bad Short r) a.yours ∙ q

    or-true : (b : Bool) → (b || true) ≡ true
    or-true true = refl
    or-true false = refl

    go : (b : Bool) → (c || record_bad Short r) ≡ b
        → ((A B : List (List ℕ)) → Abreast (eqb (kind_at r) 2) A B → Alike A B (records_of Long (convert_from (eqb (kind_at r) 2) rs)) rs)
        → Alike As Bs (records_of Long (cond b (255 ∷ []) (long_for r ++ convert_from (eqb (kind_at r) 2) rs))) (r ∷ rs)
    go true q k =
        subst (λ (ls : List (List ℕ)). Alike As Bs ls (r ∷ rs)) (sym stop-record)
        (both-bad As Bs (255 ∷ []) r [] rs a.many (ap (closed_in As ||◌) stop-bad ∙ or-true (closed_in As)) (yours true q))
    go false q k =
        let g : record_bad Short r ≡ false = or-second c (record_bad Short r) q in
        let z : Abreast false As Bs = subst (λ (b : Bool). Abreast b As Bs) (or-first c (record_bad Short r) q) a in
        let f : Abreast (eqb (kind_at r) 2) (As ++ (long_for r ∷ [])) (Bs ++ (r ∷ [])) = further As Bs r z in
        subst (λ (ls : List (List ℕ)). Alike As Bs ls (r ∷ rs)) (sym (first-record r g (convert_from (eqb (kind_at r) 2) rs)))
        (both-good As Bs (long_for r) r (records_of Long (convert_from (eqb (kind_at r) 2) rs)) rs a.many
        (ap (◌|| record_bad Long (long_for r)) z.mine ∙ (long r g).good) (yours false q) f.count (long-call r g)
        (k (As ++ (long_for r ∷ [])) (Bs ++ (r ∷ [])) f))

-- ---- and so the numbers: of a good trace all records are good ones
module _ (o : Opening) (ls rs : List (List ℕ)) where
  same_numbers : (s t : State) (xs ys : List (List ℕ)) → s ≡ t → GoodOnes ls s xs → GoodOnes rs t ys → map (record_call Long) xs ≡ map (record_call Short) ys
      → printed_by Long o s ls ≡ printed_by Short o t rs
  same_numbers s Good xs ys e x y z =
      let x' : xs ≡ ls = subst (λ (u : State). GoodOnes ls u xs) e x in
      ap (λ (u : State). printed_by Long o u ls) e
      ∙ ap (λ (cs : List Call). numbers_of (entries o cs)) (ap (map (record_call Long)) (sym x') ∙ z ∙ ap (map (record_call Short)) y)
  same_numbers s (Bad n) xs ys e x y z = ap (λ (u : State). printed_by Long o u ls) e
  same_numbers s (Refused k n) xs ys e x y z = ap (λ (u : State). printed_by Long o u ls) e

pub same-print : (o : Opening) (l : List ℕ) → SamePrint o l
unfolding converted
same-print o l =
    let w : Alike [] [] (made l) (given l) = alike false [] [] (given l) (record { mine = refl; yours = refl; count = refl; many = refl }) in
    record {
      state = w.state;
      calls = w.calls;
      numbers =
          same_numbers o (made l) (given l) (state_of Long (made l)) (state_of Short (given l)) (good_records Long (made l)) (good_records Short (given l)) w.state
          (good-records Long (made l)) (good-records Short (given l)) w.calls;
    }

-- THE CLAIM: whatever program shows it, and at whatever opening, the long reading prints of what the converter wrote what the short reading prints of the input
pub prints-the-same : (w : Show) (o : Opening) (l : List ℕ) → print_of w Long o (converted l) ≡ print_of w Short o l
prints-the-same w o l = let s = same-print o l in λ i. lines_of w o (s.calls i) ++ end_text w (s.state i) (s.numbers i)

-- with the short program's sizes: `replay --sizes 256 62` without its lines, and the ledger program
pub same-ledger : (l : List ℕ) → print_of Nothing Long ledger_sizes (converted l) ≡ ledger_of l
same-ledger l = prints-the-same Nothing ledger_sizes l
