-- EXACTLY WHEN a call is refused, by which number; when it says that there is no more; and that neither changes anything.
use Rattle.session_rules.specs.Options.{Stamp}
use Prim.Native.Nat.{ℕ, zero, suc, ◌≤◌, ◌<◌}
use mathlib.Core.Path.{◌≡◌, refl, sym}
use mathlib.Core.Bool.{Bool, true, false}
use mathlib.Core.List.{List}
use mathlib.Core.Logic.{◌↔◌}
use native.Mathlib.Omega.{arith}
use lib.ListN.{length}
use lib.Dec.{ltb}
use borrow.Author.Tests.{lt-ltb, le-ltb, ltb-true, ltb-false}
use Rattle.rules.specs.Numbered.{Row, first_row, Given, here, later, NoneOf}
use Rattle.rules.proofs.Rows.{Numbered, given-row, row_first, none_row, row-none}
use Rattle.sender.specs.declared.Sender.{Sender}
use Rattle.sender.specs.declared.Sending.TheVariants.{Refused, Done, Wrote}
use Rattle.sender.specs.declared.Sent.{Sent}
use Rattle.sender.specs.Send.{transfer_at, transfer_size, frame_rows, send_rows, sent_by, send_of, room_by, room_of}
use Rattle.sender.proofs.Writing.{room_after}

given-positive : {rows : List Row} {k : ℕ} → Numbered rows → Given rows k → 0 < k
given-positive p (here r rs e) = p.0
given-positive p (later r rs k e g) = given-positive p.1 g

to-given : (rows : List Row) (k : ℕ) → first_row rows ≡ k → 0 < k → Given rows k
to-given rows zero e p = absurd (omega arith)
to-given rows (suc k) e p = (row_first rows k).0 e

module _ (x : Sender) (l : List ℕ) (payload : ℕ) (s : Stamp) where
  abbrev rows : ℕ → List Row
  rows room = send_rows x.at (length l) payload s room

  abbrev by : ℕ → Bool → Sent
  by k more = sent_by k more x (length l) payload s

  numbered : (room : ℕ) → Numbered (rows room)
  numbered room = (omega arith, (omega arith, (omega arith, tt)))

  refused-to : (n : ℕ) (b : Bool) (k : ℕ) → (by n b).sending ≡ Refused k → (n ≡ k) × (0 < k)
  refused-to zero true k e = let z : ◌≡◌ {A = ℕ} 0 1 = cc in absurd (omega arith)
  refused-to zero false k e = let z : ◌≡◌ {A = ℕ} 0 1 = cc in absurd (omega arith)
  refused-to (suc n) b k e = let q : suc n ≡ k = cc in (q, omega arith)

  refused-from : (n : ℕ) (b : Bool) (k : ℕ) → n ≡ k → 0 < k → (by n b).sending ≡ Refused k
  refused-from zero b k e p = absurd (omega arith)
  refused-from (suc n) b k e p = rw e

  done-to : (n : ℕ) (b : Bool) → (by n b).sending ≡ Done → (n ≡ 0) × (b ≡ false)
  done-to zero true e = let z : ◌≡◌ {A = ℕ} 0 1 = cc in absurd (omega arith)
  done-to zero false e = (refl, refl)
  done-to (suc n) b e = let z : ◌≡◌ {A = ℕ} 0 1 = cc in absurd (omega arith)

  wrote-to : (n : ℕ) (b : Bool) (k : ℕ) → (by n b).sending ≡ Wrote k → (n ≡ 0) × (b ≡ true) × (k ≡ transfer_size payload s (length l) x.at)
  wrote-to zero true k e = let q : k ≡ transfer_size payload s (length l) x.at = cc in (refl, refl, q)
  wrote-to zero false k e = let z : ◌≡◌ {A = ℕ} 0 1 = cc in absurd (omega arith)
  wrote-to (suc n) b k e = let z : ◌≡◌ {A = ℕ} 0 1 = cc in absurd (omega arith)

  -- 80, 81, 82: k is given exactly when its row says so and no earlier one does
  pub refused-exactly : (room k : ℕ) → ((send_of x l payload s room).sending ≡ Refused k) ↔ Given (rows room) k
  unfolding send_of
  refused-exactly room k = (
    λ e. let z = refused-to (first_row (rows room)) (ltb x.at (length l)) k e in to-given (rows room) k z.0 z.1,
    λ g. refused-from (first_row (rows room)) (ltb x.at (length l)) k (given-row g) (given-positive (numbered room) g),
  )

  -- after the last: neither 80 nor 81 is broken, and the whole frame is sent; whatever the room
  pub done-exactly : (room : ℕ) → ((send_of x l payload s room).sending ≡ Done) ↔ (NoneOf (frame_rows (length l) payload s) × (length l ≤ x.at))
  unfolding send_of
  done-exactly room = (
    λ e. let z = done-to (first_row (rows room)) (ltb x.at (length l)) e in
        let n = row-none (rows room) (numbered room) z.0 in
        ((n.0, (n.1.0, tt)), ltb-false x.at (length l) z.1),
    λ p. rw (none_row (rows room) (p.0.0, (p.0.1.0, (sym (room_after x.at (length l) payload s room p.1), tt))), le-ltb x.at (length l) p.1) refl,
  )

  -- a transfer is written, of so many bytes: nothing is broken, and there is a next one
  pub wrote-exactly : (room k : ℕ) → ((send_of x l payload s room).sending ≡ Wrote k) ↔ (NoneOf (rows room) × (x.at < length l) × (k ≡ transfer_size payload s (length l) x.at))
  unfolding send_of
  wrote-exactly room k = (
    λ e. let z = wrote-to (first_row (rows room)) (ltb x.at (length l)) k e in
        (row-none (rows room) (numbered room) z.0, ltb-true x.at (length l) z.1, z.2),
    λ p. rw (none_row (rows room) p.0, lt-ltb x.at (length l) p.1, p.2) refl,
  )

  -- a refused call, and one after the last, change neither the sender nor a byte of the room
  pub refused-as-it-was : (room : List ℕ) (k : ℕ) → (send_of x l payload s (length room)).sending ≡ Refused k → ((send_of x l payload s (length room)).sender ≡ x) × (room_of x l payload s room ≡ room)
  unfolding send_of room_of
  refused-as-it-was room k e = go (first_row (rows (length room))) (ltb x.at (length l)) e
    where
      go : (n : ℕ) (b : Bool) → (by n b).sending ≡ Refused k → ((by n b).sender ≡ x) × (room_by (by n b).sending (transfer_at payload x.fid s l x.at) room ≡ room)
      go zero true e = let z : ◌≡◌ {A = ℕ} 0 1 = cc in absurd (omega arith)
      go zero false e = let z : ◌≡◌ {A = ℕ} 0 1 = cc in absurd (omega arith)
      go (suc n) b e = (refl, refl)

  pub done-as-it-was : (room : List ℕ) → (send_of x l payload s (length room)).sending ≡ Done → ((send_of x l payload s (length room)).sender ≡ x) × (room_of x l payload s room ≡ room)
  unfolding send_of room_of
  done-as-it-was room e = go (first_row (rows (length room))) (ltb x.at (length l)) e
    where
      go : (n : ℕ) (b : Bool) → (by n b).sending ≡ Done → ((by n b).sender ≡ x) × (room_by (by n b).sending (transfer_at payload x.fid s l x.at) room ≡ room)
      go zero true e = let z : ◌≡◌ {A = ℕ} 0 1 = cc in absurd (omega arith)
      go zero false e = (refl, refl)
      go (suc n) b e = let z : ◌≡◌ {A = ℕ} 0 1 = cc in absurd (omega arith)
