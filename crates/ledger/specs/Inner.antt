-- What the inner contracts cite: the same entries on lent numbers, and room for them. Nothing here needs to be believed: proofs/Lent.antt ties it to the ledger.
use Rattle.session_rules.specs.Options.{Ended, Stamp}
use Rattle.std.specs.Prelude.{ℕ, ◌+◌, ◌≤◌, ◌<◌, ◌≡◌, List, get_or, set, None, Some}
use Rattle.session_rules.specs.declared.Fate.{Fate}
use Rattle.session_rules.specs.declared.Account.{Account}
use Rattle.session_rules.specs.declared.Step.{Step}
use Rattle.session_rules.specs.declared.Step.TheVariants.{Forward, Backward}
use Rattle.session_rules.specs.declared.Ledger.{Ledger}
use Rattle.session_rules.specs.Accounts.{account_count, place_of, account_for, count_at, bytes_at, lost_at, ticks_at, backward_at, number_count, under_at}

-- a ledger of lent numbers
abbrev pub ledger_with : List ℕ → Stamp → Ledger
ledger_with l s = record { numbers = l; last = s }

-- n more at a place
abbrev pub plus_at : List ℕ → ℕ → ℕ → List ℕ
plus_at l i n = set l i (get_or l i 0 + n)

-- one more in an account, of n bytes
abbrev pub entered_in : List ℕ → Account → ℕ → List ℕ
entered_in l a n = plus_at (plus_at l (count_at (place_of a)) 1) (bytes_at (place_of a)) n

-- a step
abbrev pub stepped_in : List ℕ → Step → List ℕ
stepped_in l (Forward n) = plus_at l ticks_at n
stepped_in l (Backward n) = plus_at l backward_at 1

-- a frame that was ended, with its bytes
abbrev pub ended_in : List ℕ → Ended → ℕ → List ℕ
ended_in l None gone = l
ended_in l (Some why) gone = entered_in l (account_for why) gone

-- the bytes that a fate enters
abbrev pub fate_bytes : Fate → ℕ → ℕ
fate_bytes Fate.Idle n = 0
fate_bytes Fate.Kept n = 0
fate_bytes Fate.Stray n = n
fate_bytes (Fate.Delivered d) n = d.len
fate_bytes (Fate.Still d) n = d.len
fate_bytes (Fate.Dropped why) n = n
fate_bytes (Fate.Unreadable k) n = n

-- ROOM FOR MORE, so that no sum wraps: neither number of an account is above b
pub record Spare (b : ℕ) (l : List ℕ) (k : ℕ) : Type 0 where
  pub count : get_or l (count_at k) 0 ≤ b
  pub bytes : get_or l (bytes_at k) 0 ≤ b

-- and no other number is. The account of the frame under way is left out: while the frame goes on, the track has it.
pub record Room (b : ℕ) (l : List ℕ) : Type 0 where
  pub accounts : (k : ℕ) → k < account_count → (k ≡ under_at → ⊥) → Spare b l k
  pub others : (i : ℕ) → lost_at ≤ i → i < number_count → get_or l i 0 ≤ b
