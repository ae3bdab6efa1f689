-- THE TWO PLACES OF THE FRAME UNDER WAY ARE DEAD in a ledger's numbers: no entry reads or writes them, so that whatever stands there stays there, and what is shown covers it.
use Rattle.std.specs.Prelude.{None, Some}
use Rattle.session_rules.specs.Options.{Ended, Stamp}
use Prim.Native.Nat.{ℕ, ◌+◌}
use mathlib.Core.Path.{◌≡◌, refl, sym, ap, ◌∙◌}
use mathlib.Core.List.{List}
use native.Mathlib.Omega.{arith}
use lib.ListN.{get_or, set}
use lib.Seq.{set-set, set_comm, get_or-set_other}
use Rattle.session_rules.specs.declared.Reason.{Reason}
use Rattle.session_rules.specs.declared.Reason.TheVariants.{Gap, Error, Clock, Mixed, Long, Cut, Empty}
use Rattle.session_rules.specs.declared.Fate.{Fate}
use Rattle.session_rules.specs.declared.Answer.{Answer}
use Rattle.session_rules.specs.declared.Phase.{Phase}
use Rattle.session_rules.specs.Track.{under_count, under_bytes}
use Rattle.session_rules.specs.declared.Account.{Account}
use Rattle.session_rules.specs.declared.Ledger.{Ledger}
use Rattle.session_rules.specs.declared.Step.{Step}
use Rattle.session_rules.specs.declared.Step.TheVariants.{Forward, Backward}
use Rattle.session_rules.specs.Entry.{Entry}
use Rattle.session_rules.specs.Step.{step_of}
use Rattle.session_rules.specs.Accounts.{place_of, account_for, count_at, bytes_at, lost_at, idle_at, ticks_at, backward_at, untimed_at}
use Rattle.session_rules.specs.Ledger.{plus_of, entered_of, stepped_of, last_is, timed_by, timed_of, post_of, ended_of, fated_of, answered_of, shown_of}
use Rattle.ledger_record.specs.Dead.{under_is}

-- showing the frame under way covers what stood there
pub shown-over : (c b : ℕ) (l : Ledger) (p : Phase) → shown_of (under_is c b l) p ≡ shown_of l p
unfolding shown_of
shown-over c b l p =
    let L : List ℕ = l.numbers in
    let e : set (set (set (set L 18 c) 19 b) 18 (under_count p)) 19 (under_bytes p) ≡ set (set L 18 (under_count p)) 19 (under_bytes p)
    = ap (λ (m : List ℕ). set m 19 (under_bytes p)) (set_comm (set L 18 c) 19 18 b (under_count p) (λ z. omega arith) ∙ ap (λ (m : List ℕ). set m 19 b) (set-set L 18 c (under_count p)))
    ∙ set-set (set L 18 (under_count p)) 19 b (under_bytes p) in
    λ j. record { numbers = e j; last = l.last }

-- what is shown is such a ledger
pub shown-under : (l : Ledger) (p : Phase) → shown_of l p ≡ under_is (under_count p) (under_bytes p) l
unfolding shown_of
shown-under l p = refl

-- ---- one place more does not meet them
record Apart (i : ℕ) : Type 0 where
  pub count : i ≡ 18 → ⊥
  pub bytes : i ≡ 19 → ⊥

away : (i : ℕ) → (i ≡ 18 → ⊥) → (i ≡ 19 → ⊥) → Apart i
away i a b = record { count = a; bytes = b }

-- ---- every entry but a frame under way
abbrev Settled : Entry → Type 0
Settled (Entry.UnderWay n) = ⊥
Settled (Entry.Delivered d) = Unit {0}
Settled (Entry.Still d) = Unit {0}
Settled (Entry.Dropped w n) = Unit {0}
Settled (Entry.Stray n) = Unit {0}
Settled (Entry.Unreadable n) = Unit {0}
Settled (Entry.Headers n) = Unit {0}
Settled Entry.Lost = Unit {0}
Settled Entry.Idle = Unit {0}

module _ (c b : ℕ) where
  plus-dead : (l : Ledger) (i n : ℕ) → Apart i → plus_of (under_is c b l) i n ≡ under_is c b (plus_of l i n)
  unfolding plus_of
  plus-dead l i n a =
      let L : List ℕ = l.numbers in
      let g : get_or (set (set L 18 c) 19 b) i 0 ≡ get_or L i 0 = get_or-set_other (set L 18 c) 19 i b 0 a.bytes ∙ get_or-set_other L 18 i c 0 a.count in
      let e : set (set (set L 18 c) 19 b) i (get_or (set (set L 18 c) 19 b) i 0 + n) ≡ set (set (set L i (get_or L i 0 + n)) 18 c) 19 b
      = ap (λ (m : ℕ). set (set (set L 18 c) 19 b) i (m + n)) g
      ∙ set_comm (set L 18 c) 19 i b (get_or L i 0 + n) (λ z. a.bytes (sym z))
      ∙ ap (λ (m : List ℕ). set m 19 b) (set_comm L 18 i c (get_or L i 0 + n) (λ z. a.count (sym z))) in
      λ j. record { numbers = e j; last = l.last }

  entered-dead : (l : Ledger) (a : Account) (n : ℕ) → Apart (count_at (place_of a)) → Apart (bytes_at (place_of a)) → entered_of (under_is c b l) a n ≡ under_is c b (entered_of l a n)
  entered-dead l a n x y =
      ap (λ (m : Ledger). plus_of m (bytes_at (place_of a)) n) (plus-dead l (count_at (place_of a)) 1 x) ∙ plus-dead (plus_of l (count_at (place_of a)) 1) (bytes_at (place_of a)) n y

  step-dead : (l : Ledger) (s : Step) → stepped_of (under_is c b l) s ≡ under_is c b (stepped_of l s)
  step-dead l (Forward n) = plus-dead l ticks_at n (away ticks_at (λ z. omega arith) (λ z. omega arith))
  step-dead l (Backward n) = plus-dead l backward_at 1 (away backward_at (λ z. omega arith) (λ z. omega arith))

  timed-by : (last : Stamp) (l : Ledger) (s : Stamp) → timed_by last (under_is c b l) s ≡ under_is c b (timed_by last l s)
  timed-by last l None = plus-dead l untimed_at 1 (away untimed_at (λ z. omega arith) (λ z. omega arith))
  timed-by None l (Some y) = refl
  timed-by (Some x) l (Some y) = ap (λ (m : Ledger). last_is m (Some y)) (step-dead l (step_of x y))

  timed-dead : (l : Ledger) (s : Stamp) → timed_of (under_is c b l) s ≡ under_is c b (timed_of l s)
  unfolding timed_of
  timed-dead l s = timed-by l.last l s

  dropped-dead : (l : Ledger) (w : Reason) (n : ℕ) → entered_of (under_is c b l) (account_for w) n ≡ under_is c b (entered_of l (account_for w) n)
  dropped-dead l Gap n = entered-dead l Account.Gap n (away _ (λ z. omega arith) (λ z. omega arith)) (away _ (λ z. omega arith) (λ z. omega arith))
  dropped-dead l Error n = entered-dead l Account.Error n (away _ (λ z. omega arith) (λ z. omega arith)) (away _ (λ z. omega arith) (λ z. omega arith))
  dropped-dead l Clock n = entered-dead l Account.Clock n (away _ (λ z. omega arith) (λ z. omega arith)) (away _ (λ z. omega arith) (λ z. omega arith))
  dropped-dead l Mixed n = entered-dead l Account.Mixed n (away _ (λ z. omega arith) (λ z. omega arith)) (away _ (λ z. omega arith) (λ z. omega arith))
  dropped-dead l Long n = entered-dead l Account.Long n (away _ (λ z. omega arith) (λ z. omega arith)) (away _ (λ z. omega arith) (λ z. omega arith))
  dropped-dead l Cut n = entered-dead l Account.Cut n (away _ (λ z. omega arith) (λ z. omega arith)) (away _ (λ z. omega arith) (λ z. omega arith))
  dropped-dead l Empty n = entered-dead l Account.Empty n (away _ (λ z. omega arith) (λ z. omega arith)) (away _ (λ z. omega arith) (λ z. omega arith))

  pub post-dead : (l : Ledger) (e : Entry) → Settled e → post_of (under_is c b l) e ≡ under_is c b (post_of l e)
  unfolding post_of
  post-dead l (Entry.UnderWay n) s = absurd s
  post-dead l (Entry.Delivered d) s =
      ap (λ (m : Ledger). timed_of m d.stamp) (entered-dead l Account.Delivered d.len (away _ (λ z. omega arith) (λ z. omega arith)) (away _ (λ z. omega arith) (λ z. omega arith)))
      ∙ timed-dead (entered_of l Account.Delivered d.len) d.stamp
  post-dead l (Entry.Still d) s = entered-dead l Account.Still d.len (away _ (λ z. omega arith) (λ z. omega arith)) (away _ (λ z. omega arith) (λ z. omega arith))
  post-dead l (Entry.Dropped w n) s = dropped-dead l w n
  post-dead l (Entry.Stray n) s = entered-dead l Account.Stray n (away _ (λ z. omega arith) (λ z. omega arith)) (away _ (λ z. omega arith) (λ z. omega arith))
  post-dead l (Entry.Unreadable n) s = entered-dead l Account.Unreadable n (away _ (λ z. omega arith) (λ z. omega arith)) (away _ (λ z. omega arith) (λ z. omega arith))
  post-dead l (Entry.Headers n) s = entered-dead l Account.Headers n (away _ (λ z. omega arith) (λ z. omega arith)) (away _ (λ z. omega arith) (λ z. omega arith))
  post-dead l Entry.Lost s = plus-dead l lost_at 1 (away lost_at (λ z. omega arith) (λ z. omega arith))
  post-dead l Entry.Idle s = plus-dead l idle_at 1 (away idle_at (λ z. omega arith) (λ z. omega arith))

  pub ended-dead : (l : Ledger) (e : Ended) (n : ℕ) → ended_of (under_is c b l) e n ≡ under_is c b (ended_of l e n)
  ended-dead l None n = refl
  ended-dead l (Some w) n = post-dead l (Entry.Dropped w n) tt

  pub fated-dead : (l : Ledger) (f : Fate) (n : ℕ) → fated_of (under_is c b l) f n ≡ under_is c b (fated_of l f n)
  fated-dead l Fate.Idle n = post-dead l Entry.Idle tt
  fated-dead l Fate.Kept n = refl
  fated-dead l Fate.Stray n = post-dead l (Entry.Stray n) tt
  fated-dead l (Fate.Delivered d) n = post-dead l (Entry.Delivered d) tt
  fated-dead l (Fate.Still d) n = post-dead l (Entry.Still d) tt
  fated-dead l (Fate.Dropped w) n = post-dead l (Entry.Dropped w n) tt
  fated-dead l (Fate.Unreadable k) n = post-dead l (Entry.Unreadable n) tt

  pub answered-dead : (l : Ledger) (a : Answer) (gone n : ℕ) → answered_of (under_is c b l) a gone n ≡ under_is c b (answered_of l a gone n)
  answered-dead l a gone n = ap (λ (m : Ledger). fated_of m a.fate n) (ended-dead l a.ended gone) ∙ fated-dead (ended_of l a.ended gone) a.fate n
