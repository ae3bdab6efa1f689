-- What specs/Statement states, proved.
use Rattle.session_rules.specs.Options.{Start}
use Rattle.std.specs.Prelude.{Err, Ok}
use Prim.Native.Nat.{ℕ, zero, suc, ◌≤◌}
use mathlib.Core.Path.{◌≡◌, refl, ◌∙◌, ap, subst}
use mathlib.Core.Bool.{true, false}
use mathlib.Core.List.{List, [], ◌∷◌, ◌++◌}
use native.Mathlib.Omega.{arith}
use lib.ListN.{length}
use lib.Dec.{eqb}
use borrow.Author.Tests.{le-ltb}
use Rattle.rules.specs.Numbered.{first_row, or_else}
use Rattle.sizes.specs.declared.Opening.{Opening}
use Rattle.session_rules.proofs.OldKind as old
use Rattle.session_rules.proofs.Vp8Kind as vp8
use Rattle.session_rules.specs.Track.{handing}
use Rattle.session_rules.specs.declared.Session.{Session}
use Rattle.session_rules.specs.declared.Outcome.{Outcome}
use Rattle.session_rules.specs.Refusals.{taken_most, opening_rows, ledger_of}
use Rattle.rules.proofs.Rows.{none_row}
use Rattle.session_rules.proofs.Refused.{open-open-exactly}
use Rattle.session_rules.proofs.Readings.{idle-exactly, unreadable-exactly, readable-exactly}
use Rattle.session_rules.proofs.WhenRefused as when
use Rattle.session_rules.specs.Session.{fresh, open_by, open_of, take_of, buffer_by, buffer_of}
use Rattle.books.specs.Rule.{events, is_open, entries, numbers_of, stamps, last_stamped, received}
use Rattle.books.specs.Demands.{Right, ended_items, fate_items, Gains, Says, Whole, Film, WithoutStills}
use Rattle.books.specs.HandedOut.{HandedWhole, MarkedBefore, EofFraming}
use Rattle.books.specs.Answer.{answer_of}
use Rattle.books.specs.Offers.{taken_in, list_of}
use Rattle.books.proofs.Taken.{next-refused, after_run, Proper, taken-proper, close-last}
use Rattle.books.proofs.Histories.{accounts-taken, numbers-taken, last_taken, bytes-taken, sound-taken}
use Rattle.books.proofs.Offers.{none-taken, list-is, closed-listed, taken-listed, broken-is, refused-listed}
use Rattle.books.proofs.Every.{take-says, take-leaves, session-after, handed-where}
use Rattle.books.proofs.Every as every
use Rattle.books.proofs.Answers.{transfer-says, handed-says, lost-says, close-says}
use Rattle.books.proofs.ByList.{all-marked}
use Rattle.books.proofs.HandedOut.{by-eof-alone, again}
use Rattle.books.proofs.HandedOut as out
use Rattle.books.proofs.Whole.{delivered-whole}
use Rattle.books.proofs.Whole as buffers
use Rattle.books.proofs.Stills.{without-stills}
use Rattle.books.proofs.HeaderKinds.{no-layers, reports-none, all-timed, all-film, answers-no-still, closes-no-still}
use Rattle.books.proofs.Alongside.{heard-alike}
use Rattle.sizes.specs.Sizes.{sizes_broken}
use Rattle.session_rules.specs.Rule50.{transfer_most}
use Rattle.session_rules.specs.Call.{Call}
use Rattle.session_rules.specs.Calls.{Offer, refusal, after, taken, run, offers, buffer_after}
use Rattle.books.specs.Statement.{reached, NoInputStops, FramesAreWhole, NothingGoesMissing, CamerasWithoutEof, StillsAndKinds, Statement}

-- ---- openings
start-open : (o : Opening) (room : ℕ) → (open_of o room).start ≡ Ok tt → ((open_of o room).session ≡ fresh o) × (sizes_broken o ≡ false)
unfolding open_of opening_rows sizes_broken
start-open o room e = let d = (open-open-exactly o room).0 e in rw (none_row (opening_rows o room) d) (refl, rw (d.0, d.1.0))

start-refused : (o : Opening) (room k : ℕ) → (open_of o room).start ≡ Err k → (xs : List Offer) (x : Offer) → refusal (after (open_of o room).session xs) x ≡ 50
unfolding open_of
start-refused o room k e xs x = go (first_row (opening_rows o room)) e
  where
    no : ◌≡◌ {A = Start} (Ok tt) (Err k) → ⊥
    no q = let z : ◌≡◌ {A = ℕ} 0 1 = cc in omega arith

    go : (n : ℕ) → (open_by n o).start ≡ Err k → refusal (after (open_by n o).session xs) x ≡ 50
    go zero q = absurd (no q)
    go (suc n) q = none-taken xs x

-- ---- 1
buffer-kept : (s : Session) (buffer t : List ℕ) (k : ℕ) → refusal s (Offer.take buffer t) ≡ suc k → buffer_of s buffer t ≡ buffer
unfolding buffer_of
buffer-kept s buffer t k e = ap (λ (n : ℕ). buffer_by n s buffer t) e

-- what an open session of admissible sizes refuses
module _ (o : Opening) (sizes : sizes_broken o ≡ false) (xs : List Offer) (open₀ : is_open (list_of o xs) ≡ true) where
  only-take : (buffer t : List ℕ) → o.frame ≤ length buffer → length t ≤ transfer_most
      → refusal (reached o xs) (Offer.take buffer t) ≡ or_else (eqb (taken_in (list_of o xs)) taken_most) 52 0
  only-take buffer t room small =
      refused-listed o xs (Offer.take buffer t) ∙ rw (sizes, open₀, le-ltb (length buffer) o.frame room, le-ltb transfer_most (length t) small)

  only-lost : refusal (reached o xs) Offer.lost ≡ or_else (eqb (taken_in (list_of o xs)) taken_most) 52 0
  only-lost = refused-listed o xs Offer.lost ∙ rw (sizes, open₀)

  never-close : refusal (reached o xs) Offer.close ≡ 0
  never-close = refused-listed o xs Offer.close ∙ rw (sizes, open₀)

pub no-input-stops : NoInputStops
no-input-stops =
    record {
      open-when = when.open-when;
      take-when = when.take-when;
      lost-when = when.lost-when;
      close-when = when.close-when;
      session-kept = next-refused;
      bytes-kept = buffer-kept;
      opened = start-open;
      refused-opening = start-refused;
      refusals = refused-listed;
      broken = broken-is;
      take-only-full = only-take;
      lost-only-full = only-lost;
      close_never = never-close;
    }

-- ---- 2
pub frames-whole : FramesAreWhole
frames-whole =
    record {
      idle = idle-exactly;
      unreadable = unreadable-exactly;
      readable = readable-exactly;
      delivered = λ o buffer calls room t a b d e f.
          subst (λ (cs : List Call). Whole o (cs ++ (Call.transfer t ∷ [])) b d (buffer_of (reached o (offers (fresh o) buffer calls)) (buffer_after (fresh o) buffer calls) t))
          (list-is o (offers (fresh o) buffer calls)) (delivered-whole o buffer calls room t a b d e f);
      handed = λ o buffer calls room t x e.
          subst (λ (cs : List Call). HandedWhole o cs x (buffer_of (reached o (offers (fresh o) buffer calls)) (buffer_after (fresh o) buffer calls) t))
          (list-is o (offers (fresh o) buffer calls)) (buffers.handed-whole o buffer calls room t x e);
      buffers = take-leaves;
    }

-- ---- 3
-- what holds of the calls taken holds of the list
listed : (P : Opening → List Call → Type 0) (o : Opening) (xs : List Offer) → P o (taken (fresh o) xs) → P o (list_of o xs)
listed P o xs = subst (P o) (list-is o xs)

pub accounts-right : (o : Opening) (xs : List Offer) → Right o (list_of o xs) (ledger_of (reached o xs))
accounts-right o xs = listed (λ o cs. Right o cs (ledger_of (reached o xs))) o xs (accounts-taken o xs)

pub nothing-missing : NothingGoesMissing
nothing-missing =
    record {
      list = list-is;
      history = λ o xs. after_run (fresh o) xs ∙ ap (run (fresh o)) (list-is o xs);
      close-last = λ o xs before rest e. close-last before rest (fresh o) (subst (Proper (fresh o)) (list-is o xs ∙ e) (taken-proper (fresh o) xs));
      closed = closed-listed;
      counted = taken-listed;
      answers = take-says;
      reports = every.lost-says;
      closings = every.close-says;
      sessions = session-after;
      answer-gains = λ o xs buffer t a e. listed (λ o cs. Says o cs (Call.transfer t) a) o xs (transfer-says o xs buffer t a e);
      handed-gains = λ o xs buffer t x e.
          let g = handed-says o xs buffer t x e in
          (g.0, listed (λ o cs. Gains o cs Call.handed (fate_items (handing x.still x.delivery) x.delivery.len g.0)) o xs g.1);
      report-gains = λ o xs e. listed (λ o cs. Gains o cs Call.lost []) o xs (lost-says o xs e);
      close-gains = λ o xs e q. let g = close-says o xs e q in (g.0, (g.1, listed (λ o cs. Gains o cs Call.close (ended_items e g.0 g.1)) o xs g.2));
      accounts = accounts-right;
      numbers = λ o xs. numbers-taken o xs ∙ ap (λ (cs : List Call). numbers_of (entries o cs)) (list-is o xs);
      together = λ o xs. bytes-taken o xs ∙ ap received (list-is o xs);
      ticks = λ o xs. (accounts-right o xs).ticks;
      last = λ o xs. last_taken o xs ∙ ap (λ (cs : List Call). last_stamped (stamps (entries o cs))) (list-is o xs);
    }

-- ---- Two
pub two : CamerasWithoutEof
two =
    record {
      hands_out = handed-where;
      marked-before = λ o xs e. listed MarkedBefore o xs (all-marked o (taken (fresh o) xs) e (taken-proper (fresh o) xs));
      again = λ o e xs buffer t x p.
          listed (λ o cs. (take_of (reached o (xs ++ (Offer.take buffer t ∷ []))) (length buffer) t).outcome ≡ Outcome.Taken (answer_of o (cs ++ (Call.handed ∷ [])) t)) o xs
          (again o xs buffer t x p (sound-taken o (xs ++ (Offer.take buffer t ∷ [])) e));
      never-twice = out.never-twice;
      eof-framing = λ o xs e. listed EofFraming o xs (by-eof-alone o (taken (fresh o) xs) e (taken-proper (fresh o) xs));
    }

-- ---- Ten and Twelve
film-alone : (o : Opening) (xs : List Offer) → Film (events o (list_of o xs)) → WithoutStills o (list_of o xs) (ledger_of (reached o xs))
film-alone o xs f = without-stills o (list_of o xs) (ledger_of (reached o xs)) (accounts-right o xs) f

pub ten-and-twelve : StillsAndKinds
ten-and-twelve =
    record {
      no-stills = film-alone;
      old-kind = λ o xs e. (old.old-kind o e, no-layers o e (list_of o xs));
      old-answers = λ o xs buffer t e. reports-none o e xs buffer t;
      vp8-kind = λ o xs e. (vp8.vp8-kind o e, all-timed o e (list_of o xs) (ledger_of (reached o xs)) (accounts-right o xs));
      vp8-stills = λ o xs e. film-alone o xs (all-film o e (list_of o xs));
      vp8-answers = λ o xs buffer t e. answers-no-still o e xs buffer t;
      vp8-closes = λ o xs e. closes-no-still o e xs;
    }

-- THE STATEMENT HOLDS
pub held : Statement
held = record { first = no-input-stops; second = frames-whole; third = nothing-missing; two = two; ten-and-twelve = ten-and-twelve; nothing-else = heard-alike }
