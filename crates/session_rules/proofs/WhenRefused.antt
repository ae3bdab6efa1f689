-- When each call is refused, in words: the rows of specs/Refusals say what specs/WhenRefused says.
use Prim.Native.Nat.{ℕ, ◌≤◌, ◌<◌}
use mathlib.Core.Path.{◌≡◌, refl, sym}
use mathlib.Core.Bool.{Bool, true, false, true≢false}
use mathlib.Core.List.{List, map}
use mathlib.Core.Logic.{◌↔◌, inl, inr}
use lib.ListN.{length}
use lib.Dec.{eqb, ltb}
use borrow.Author.Tests.{eq-eqb, ne_eqb, lt-ltb, le-ltb, eqb-true, eqb-false, ltb-true, ltb-false}
use Rattle.rules.specs.Numbered.{Row, Given, here, later, NoneOf, rows_before, is_broken}
use Rattle.rules.specs.IfElse.{if_else}
use Rattle.rules.proofs.Rows.{is_elsewhere, once_each, once_after, given_by}
use Rattle.sizes.specs.declared.Opening.{Opening}
use Rattle.sizes.specs.Sizes.{Between, frame_size_broken, payload_size_broken}
use Rattle.sizes.proofs.Limits.{frame-sound, payload-sound}
use Rattle.session_rules.specs.declared.Session.{Session}
use Rattle.session_rules.specs.Refusals.{taken_most, opening_rows, record_broken, Keeps50, close_rows, lost_rows, take_rows}
use Rattle.session_rules.specs.Rule50.{transfer_most}
use Rattle.session_rules.specs.WhenRefused.{Among, OpenWhen, Closes, Notes, TakeWhen, LostWhen, CloseWhen}
use Rattle.session_rules.proofs.Row50.{frame-clear, payload-clear}
use Rattle.session_rules.proofs.Record50.{row-50, row-50-given}
use Rattle.session_rules.proofs.Refused as refused

-- ---- one way and then another
through : {A B C : Type 0} → A ↔ B → B ↔ C → A ↔ C
through p q = (λ a. q.0 (p.0 a), λ c. p.1 (q.1 c))

both : {A B C D : Type 0} → A ↔ B → C ↔ D → (A × C) ↔ (B × D)
both p q = (λ x. (p.0 x.0, q.0 x.1), λ y. (p.1 y.0, q.1 y.1))

-- ---- the tests, in words
full : (n m : ℕ) → (eqb n m ≡ true) ↔ (n ≡ m)
full n m = (eqb-true n m, eq-eqb n m)

more : (n m : ℕ) → (eqb n m ≡ false) ↔ (n ≡ m → ⊥)
more n m = (eqb-false n m, ne_eqb n m)

below : (n m : ℕ) → (ltb n m ≡ true) ↔ (n < m)
below n m = (ltb-true n m, lt-ltb n m)

within : (n m : ℕ) → (ltb n m ≡ false) ↔ (m ≤ n)
within n m = (ltb-false n m, le-ltb n m)

refuted : (b : Bool) (A : Type 0) → (b ≡ false) ↔ A → (b ≡ true) ↔ (A → ⊥)
refuted true A p = (λ e a. true≢false (p.1 a), λ h. refl)
refuted false A p = (λ e. absurd (true≢false (sym e)), λ h. absurd (h (p.0 refl)))

-- ---- the rows, in words
frame-within : (n : ℕ) → (frame_size_broken n ≡ false) ↔ Between 1 n 16_777_216
frame-within n = (frame-sound n, frame-clear n)

payload-within : (n : ℕ) → (payload_size_broken n ≡ false) ↔ Between 2 n 65_536
payload-within n = (payload-sound n, payload-clear n)

-- a number that is given is that of a row
numbers : List Row → List ℕ
numbers rows = map (λ (r : Row). r.number) rows

given-among : {rows : List Row} {k : ℕ} → Given rows k → Among k (numbers rows)
unfolding numbers
given-among (here r rs e) = inl refl
given-among (later r rs k e g) = inr (given-among g)

module _ (o : Opening) (room : ℕ) where
  opening-given : (k : ℕ) → Given (opening_rows o room) k ↔ (NoneOf (rows_before k (opening_rows o room)) × (is_broken k (opening_rows o room) ≡ true))
  unfolding opening_rows once_each is_elsewhere
  opening-given k = given_by (opening_rows o room) k (once_after (opening_rows o room) refl k)

  pub open-when : OpenWhen o room
  unfolding opening_rows rows_before is_broken if_else numbers
  open-when =
      let f = frame-within o.frame in
      let p = payload-within o.payload in
      record {
        opens = through (refused.open-open-exactly o room) (λ n. (f.0 n.0, (p.0 n.1.0, (within room o.frame).0 n.1.1.0)), λ w. (f.1 w.0, (p.1 w.1.0, ((within room o.frame).1 w.1.1, tt))));
        by-45 = through (refused.open-refused-exactly o room 45) (through (opening-given 45) (λ g. (refuted _ _ f).0 g.1, λ w. (tt, (refuted _ _ f).1 w)));
        by-46 = through (refused.open-refused-exactly o room 46) (through (opening-given 46) (λ g. (f.0 g.0.0, (refuted _ _ p).0 g.1), λ w. ((f.1 w.0, tt), (refuted _ _ p).1 w.1)));
        by-47 =
            through (refused.open-refused-exactly o room 47)
            (through (opening-given 47) (λ g. (f.0 g.0.0, (p.0 g.0.1.0, (below room o.frame).0 g.1)), λ w. ((f.1 w.0, (p.1 w.1.0, tt)), (below room o.frame).1 w.1.1)));
        alone = λ k e. given-among ((refused.open-refused-exactly o room k).0 e);
      }

module _ (s : Session) where
  -- what the rows before a call's own say
  closing : ((record_broken s ≡ false) × ((s.rest.closed ≡ false) × Unit {0})) ↔ Closes s
  closing = (λ n. record { kept = (row-50 s).0 n.0; opened = n.1.0 }, λ c. ((row-50 s).1 c.kept, (c.opened, tt)))

  noting : ((record_broken s ≡ false) × ((s.rest.closed ≡ false) × ((eqb s.rest.taken taken_most ≡ false) × Unit {0}))) ↔ Notes s
  noting = (
    λ n. record { closes = closing.0 (n.0, (n.1.0, tt)); more = (more s.rest.taken taken_most).0 n.1.1.0 },
    λ c. let b = closing.1 c.closes in (b.0, (b.1.0, ((more s.rest.taken taken_most).1 c.more, tt))),
  )

  by-50 : {A : Type 0} → A ↔ (Unit {0} × (record_broken s ≡ true)) → A ↔ (Keeps50 s → ⊥)
  by-50 p = through p (λ g. (row-50-given s).0 g.1, λ w. (tt, (row-50-given s).1 w))

  by-53 : {A : Type 0} → A ↔ (((record_broken s ≡ false) × Unit {0}) × (s.rest.closed ≡ true)) → A ↔ (Keeps50 s × (s.rest.closed ≡ true))
  by-53 p = through p (λ g. ((row-50 s).0 g.0.0, g.1), λ w. (((row-50 s).1 w.0, tt), w.1))

  by-52 : {A : Type 0} → A ↔ (((record_broken s ≡ false) × ((s.rest.closed ≡ false) × Unit {0})) × (eqb s.rest.taken taken_most ≡ true)) → A ↔ (Closes s × (s.rest.taken ≡ 4_294_967_295))
  by-52 p = through p (both closing (full s.rest.taken taken_most))

  close-given : (k : ℕ) → Given (close_rows s) k ↔ (NoneOf (rows_before k (close_rows s)) × (is_broken k (close_rows s) ≡ true))
  unfolding once_each is_elsewhere
  close-given k = given_by (close_rows s) k (once_after (close_rows s) refl k)

  pub close-when : CloseWhen s
  unfolding rows_before is_broken if_else numbers
  close-when =
      record {
        closes = through (refused.close-closed-exactly s) closing;
        by-50 = by-50 (through (refused.close-refused-exactly s 50) (close-given 50));
        by-53 = by-53 (through (refused.close-refused-exactly s 53) (close-given 53));
        alone = λ k e. given-among ((refused.close-refused-exactly s k).0 e);
      }

  lost-given : (k : ℕ) → Given (lost_rows s) k ↔ (NoneOf (rows_before k (lost_rows s)) × (is_broken k (lost_rows s) ≡ true))
  unfolding once_each is_elsewhere
  lost-given k = given_by (lost_rows s) k (once_after (lost_rows s) refl k)

  pub lost-when : LostWhen s
  unfolding rows_before is_broken if_else numbers
  lost-when =
      record {
        notes = through (refused.lost-noted-exactly s) noting;
        by-50 = by-50 (through (refused.lost-refused-exactly s 50) (lost-given 50));
        by-53 = by-53 (through (refused.lost-refused-exactly s 53) (lost-given 53));
        by-52 = by-52 (through (refused.lost-refused-exactly s 52) (lost-given 52));
        alone = λ k e. given-among ((refused.lost-refused-exactly s k).0 e);
      }

  module _ (room : ℕ) (t : List ℕ) where
    take-given : (k : ℕ) → Given (take_rows s room (length t)) k ↔ (NoneOf (rows_before k (take_rows s room (length t))) × (is_broken k (take_rows s room (length t)) ≡ true))
    unfolding once_each is_elsewhere
    take-given k = given_by (take_rows s room (length t)) k (once_after (take_rows s room (length t)) refl k)

    pub take-when : TakeWhen s room t
    unfolding rows_before is_broken if_else numbers
    take-when =
        let enough = within room s.rest.opening.frame in
        record {
          takes =
              through (refused.take-met-exactly s t room) (
                λ n. record { notes = noting.0 (n.0, (n.1.0, (n.1.1.0, tt))); enough = enough.0 n.1.1.1.0; small = (within transfer_most (length t)).0 n.1.1.1.1.0 },
                λ w. let b = noting.1 w.notes in (b.0, (b.1.0, (b.1.1.0, (enough.1 w.enough, ((within transfer_most (length t)).1 w.small, tt))))),
              );
          by-50 = by-50 (through (refused.take-refused-exactly s t room 50) (take-given 50));
          by-53 = by-53 (through (refused.take-refused-exactly s t room 53) (take-given 53));
          by-52 = by-52 (through (refused.take-refused-exactly s t room 52) (take-given 52));
          by-51 = through (refused.take-refused-exactly s t room 51) (through (take-given 51) (both noting (below room s.rest.opening.frame)));
          by-55 =
              through (refused.take-refused-exactly s t room 55)
              (through (take-given 55) (
                λ g. (noting.0 (g.0.0, (g.0.1.0, (g.0.1.1.0, tt))), (enough.0 g.0.1.1.1.0, (below transfer_most (length t)).0 g.1)),
                λ w. let b = noting.1 w.0 in ((b.0, (b.1.0, (b.1.1.0, (enough.1 w.1.0, tt)))), (below transfer_most (length t)).1 w.1.1),
              ));
          alone = λ k e. given-among ((refused.take-refused-exactly s t room k).0 e);
        }
