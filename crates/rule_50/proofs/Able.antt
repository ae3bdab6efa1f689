-- What a record that rule 50 lets through is good for: no sum can wrap, and data goes within the frame. From 50 alone, and the record's types.
use Prim.Native.Nat.{ℕ, ◌≤◌, ◌<◌, ◌^◌}
use mathlib.Core.Path.{◌≡◌, sym, subst}
use mathlib.Core.Bool.{false}
use native.Mathlib.Omega.{arith}
use native.Mathlib.Decide.{ℕ_discrete}
use lib.ListN.{get_or}
use Rattle.sizes.specs.Sizes.{frame_most, Between}
use Rattle.session_rules.specs.declared.Phase.{Phase}
use Rattle.session_rules.specs.Track.{under_bytes, FilledBy}
use Rattle.sizes.specs.declared.Opening.{Opening}
use Rattle.session_rules.specs.declared.Ledger.{Ledger}
use Rattle.session_rules.specs.Ledger.{shown_of}
use Rattle.session_rules.specs.Rule50.{rule50, Keeps}
use Rattle.session_rules.proofs.Places.{at, Sized, shown-account, shown-single, shown-bytes}
use Rattle.session_rules.proofs.Row50.{row-50}
use Rattle.session_rules.specs.Accounts.{account_count, number_count, under_at, lost_at, idle_at, ticks_at, backward_at, untimed_at}
use Rattle.ledger.specs.Inner.{Spare, Room}

-- ---- the counts that are no accounts
among : (P : ℕ → Type 0) → P lost_at → P idle_at → P ticks_at → P backward_at → P untimed_at → (i : ℕ) → lost_at ≤ i → i < number_count → P i
among P a b c d e i h q = go (ℕ_discrete i lost_at) (ℕ_discrete i idle_at) (ℕ_discrete i ticks_at) (ℕ_discrete i backward_at)
  where
    go : Dec (i ≡ lost_at) → Dec (i ≡ idle_at) → Dec (i ≡ ticks_at) → Dec (i ≡ backward_at) → P i
    go (yes x) v w y = subst P (sym x) a
    go (no u) (yes x) w y = subst P (sym x) b
    go (no u) (no v) (yes x) y = subst P (sym x) c
    go (no u) (no v) (no w) (yes x) = subst P (sym x) d
    go (no u) (no v) (no w) (no y) = subst P (let x : untimed_at ≡ i = omega arith in x) e

-- ---- the whole record
pub record Able (o : Opening) (p : Phase) (l : Ledger) : Type 0 where
  pub frame : Between 1 o.frame frame_most
  pub filled : FilledBy o p
  pub under : under_bytes p < 2 ^ 48
  pub room : Room (2 ^ 63) l.numbers

module _ (o : Opening) (p : Phase) (l : Ledger) (n : ℕ) (keeps : Keeps o p (shown_of l p) n) (places : Sized l) (few : n < 2 ^ 32) where
  few_bytes : under_bytes p < 2 ^ 48
  few_bytes = omega (arith, keeps.bytes under_at (omega arith), shown-bytes l p places)

  spare : (k : ℕ) → k < account_count → (k ≡ under_at → ⊥) → Spare (2 ^ 63) l.numbers k
  spare k h q =
      let s = shown-account l p k q in
      record { count = omega (arith, keeps.counts k h, s.0); bytes = omega (arith, keeps.bytes k h, s.1) }

  other : (i : ℕ) → lost_at ≤ i → i < number_count → get_or l.numbers i 0 ≤ 2 ^ 63
  other i h q =
      let w = among (λ (j : ℕ). at j (shown_of l p) ≤ 2 ^ 63) (omega (arith, keeps.lost)) (omega (arith, keeps.idle)) (omega (arith, keeps.ticks))
      (omega (arith, keeps.backward)) (omega (arith, keeps.untimed)) i h q in
      omega (arith, w, shown-single l p i h)

  able-kept : Able o p l
  able-kept = record { frame = keeps.frame; filled = keeps.fill; under = few_bytes; room = record { accounts = spare; others = other } }

pub able : (o : Opening) (p : Phase) (l : Ledger) (n : ℕ) → rule50 o p (shown_of l p) n ≡ false → Sized l → n < 2 ^ 32 → Able o p l
able o p l n e places few = able-kept o p l n ((row-50 o p (shown_of l p) n).0 e) places few
