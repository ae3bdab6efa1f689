-- A call on the record is refused exactly when a row of its list is broken, by the first one, 54 before the session's own; and then nothing changes.
use Rattle.std.specs.Prelude.{Err, Ok}
use Rattle.session_rules.specs.Options.{Report, Closing}
use Prim.Native.Nat.{ℕ}
use mathlib.Core.Path.{◌≡◌, refl, sym, ap, ◌∙◌}
use mathlib.Core.Bool.{Bool, true, false}
use mathlib.Core.List.{List, ◌∷◌}
use mathlib.Core.Logic.{◌↔◌}
use lib.ListN.{length}
use Rattle.rules.specs.Numbered.{Row, row, Given, here, later}
use Rattle.session_rules.specs.declared.Rest.{Rest}
use Rattle.session_rules.specs.declared.Session.{Session}
use Rattle.session_rules.specs.declared.Outcome.{Outcome}
use Rattle.session_rules.specs.Refusals.{take_rows, lost_rows, close_rows}
use Rattle.session_rules.specs.Session.{take_of, lost_of, close_of}
use Rattle.session_rules.proofs.Refused as session
use Rattle.places.specs.Places.{broken54}
use Rattle.ledger_record.specs.Recorded.{session_of, left, is_refused, is_refused_report, is_refused_closing, take_rows54, lost_rows54, close_rows54, take_in, take_by, take_left, take_left_by, take_buffer, take_buffer_by, lost_in, lost_by, lost_left, lost_left_by, close_in, close_by, close_left, close_left_by}

-- ---- 54 in front of other rows: what refuses is it, or one of the others where it is whole
module _ (A : Type 0) (refused : ℕ → A) (number : A → ℕ) (back : (k : ℕ) → number (refused k) ≡ k) (rows : List Row) (x : A) (broken : Bool) where
  first-54 : (x₀ : Bool → A) → x ≡ x₀ broken → x₀ true ≡ refused 54 → ((k : ℕ) → (x₀ false ≡ refused k) ↔ Given rows k) → (k : ℕ) → (x ≡ refused k) ↔ Given (row 54 broken ∷ rows) k
  first-54 x₀ e t f k = ((λ p. into broken refl (sym e ∙ p)), (λ g. out k g))
    where
      into : (b : Bool) → broken ≡ b → x₀ broken ≡ refused k → Given (row 54 broken ∷ rows) k
      into true q p =
          let z : 54 ≡ k = sym (back 54) ∙ ap number (sym t ∙ ap x₀ (sym q) ∙ p) ∙ back k in
          rw (← z) (here (row 54 broken) rows q)
      into false q p = later (row 54 broken) rows k q ((f k).0 (ap x₀ (sym q) ∙ p))

      out : (j : ℕ) → Given (row 54 broken ∷ rows) j → x ≡ refused j
      out j (here r rs q) = e ∙ ap x₀ q ∙ t
      out j (later r rs i q g) = e ∙ ap x₀ q ∙ (f j).1 g

module _ (r : List ℕ) (rest : Rest) where
  -- ---- take
  outcome-number : Outcome → ℕ
  outcome-number (Outcome.Refused k) = k
  outcome-number (Outcome.Taken a) = 0
  outcome-number (Outcome.Handed x) = 0

  pub take-refused-exactly : (room : ℕ) (t : List ℕ) (k : ℕ) → ((take_in r rest room t).outcome ≡ Outcome.Refused k) ↔ Given (take_rows54 r rest room (length t)) k
  unfolding take_in outcome-number
  take-refused-exactly room t k =
      first-54 Outcome Outcome.Refused outcome-number (λ j. refl) (take_rows (session_of r rest) room (length t)) (take_in r rest room t).outcome (broken54 r)
      (λ b. (take_by b r rest room t).outcome) refl refl (λ j. session.take-refused-exactly (session_of r rest) t room j) k

  -- a refused take changes no byte of the record, none of the buffer, and not the rest
  pub take-as-it-was : (buffer t : List ℕ) (k : ℕ) → (take_in r rest (length buffer) t).outcome ≡ Outcome.Refused k
      → (take_left r rest (length buffer) t ≡ r) × ((take_buffer r rest buffer t ≡ buffer) × ((take_in r rest (length buffer) t).rest ≡ rest))
  unfolding take_in take_left take_buffer
  take-as-it-was buffer t k e = go (broken54 r) e
    where
      go : (b : Bool) → (take_by b r rest (length buffer) t).outcome ≡ Outcome.Refused k
          → (take_left_by b r rest (length buffer) t ≡ r) × ((take_buffer_by b r rest buffer t ≡ buffer) × ((take_by b r rest (length buffer) t).rest ≡ rest))
      go true q = (refl, (refl, refl))
      go false q =
          let z = session.take-as-it-was (session_of r rest) t buffer k q in
          (ap (λ (x : Outcome). left (is_refused x) r (take_of (session_of r rest) (length buffer) t).session) q, (z.1, ap (λ (x : Session). x.rest) z.0))

  -- ---- a lost report
  report-number : Report → ℕ
  report-number (Err k) = k
  report-number (Ok _) = 0

  pub lost-refused-exactly : (k : ℕ) → ((lost_in r rest).report ≡ Err k) ↔ Given (lost_rows54 r rest) k
  unfolding lost_in report-number
  lost-refused-exactly k =
      first-54 Report Err report-number (λ j. refl) (lost_rows (session_of r rest)) (lost_in r rest).report (broken54 r) (λ b. (lost_by b r rest).report) refl refl
      (λ j. session.lost-refused-exactly (session_of r rest) j) k

  pub lost-as-it-was : (k : ℕ) → (lost_in r rest).report ≡ Err k → (lost_left r rest ≡ r) × ((lost_in r rest).rest ≡ rest)
  unfolding lost_in lost_left
  lost-as-it-was k e = go (broken54 r) e
    where
      go : (b : Bool) → (lost_by b r rest).report ≡ Err k → (lost_left_by b r rest ≡ r) × ((lost_by b r rest).rest ≡ rest)
      go true q = (refl, refl)
      go false q = (ap (λ (x : Report). left (is_refused_report x) r (lost_of (session_of r rest)).session) q, ap (λ (x : Session). x.rest) (session.lost-as-it-was (session_of r rest) k q))

  -- ---- close
  closing-number : Closing → ℕ
  closing-number (Err k) = k
  closing-number (Ok e) = 0

  pub close-refused-exactly : (k : ℕ) → ((close_in r rest).closing ≡ Err k) ↔ Given (close_rows54 r rest) k
  unfolding close_in closing-number
  close-refused-exactly k =
      first-54 Closing Err closing-number (λ j. refl) (close_rows (session_of r rest)) (close_in r rest).closing (broken54 r) (λ b. (close_by b r rest).closing) refl refl
      (λ j. session.close-refused-exactly (session_of r rest) j) k

  pub close-as-it-was : (k : ℕ) → (close_in r rest).closing ≡ Err k → (close_left r rest ≡ r) × ((close_in r rest).rest ≡ rest)
  unfolding close_in close_left
  close-as-it-was k e = go (broken54 r) e
    where
      go : (b : Bool) → (close_by b r rest).closing ≡ Err k → (close_left_by b r rest ≡ r) × ((close_by b r rest).rest ≡ rest)
      go true q = (refl, refl)
      go false q = (ap (λ (x : Closing). left (is_refused_closing x) r (close_of (session_of r rest)).session) q, ap (λ (x : Session). x.rest) (session.close-as-it-was (session_of r rest) k q))
