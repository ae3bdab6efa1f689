-- Document 01, "Numbers", 50: a session record with the opening o, the frame under way p, the ledger l that it shows, and n transfers taken.
use Rattle.session_rules.specs.Options.{Fault}
use Rattle.std.specs.Prelude.{ℕ, ◌*◌, ◌<◌, ◌≤◌, ◌^◌, Bool, false, not, ◌||◌, get_or, ltb, eqb, None, Some}
use Rattle.rules.specs.Numbered.{any_below}
use Rattle.sizes.specs.declared.Opening.{Opening}
use Rattle.sizes.specs.Sizes.{frame_most, payload_least, payload_most, sizes_broken, Between}
use Rattle.session_rules.specs.declared.Phase.{Phase}
use Rattle.session_rules.specs.declared.Phase.TheVariants.{Fresh, Under, Past}
use Rattle.session_rules.specs.Track.{FilledBy}
use Rattle.session_rules.specs.declared.Ledger.{Ledger}
use Rattle.session_rules.specs.Accounts.{account_count, lost_at, idle_at, ticks_at, backward_at, untimed_at}
use Rattle.session_rules.specs.Ledger.{count_of, bytes_of}

-- the most bytes of a transfer
abbrev pub transfer_most : ℕ
transfer_most = 65_536

-- in a frame without fault, fill is its bytes under way
abbrev pub unequal : Fault → ℕ → ℕ → Bool
unequal None fill bytes = not (eqb fill bytes)
unequal (Some why) fill bytes = false

-- fill over frame size, or, in a frame without fault, not its bytes under way
unfoldable pub fill_broken : Phase → ℕ → Bool
fill_broken Fresh frame = false
fill_broken (Past fid) frame = false
fill_broken (Under r) frame = ltb frame r.fill || unequal r.fault r.fill r.bytes

-- of each account: a count above the transfers taken, or a byte account over 65,536 times them
abbrev pub account_broken : Ledger → ℕ → ℕ → Bool
account_broken l n k = ltb n (count_of l k) || ltb (transfer_most * n) (bytes_of l k)

unfoldable pub accounts_broken : Ledger → ℕ → Bool
accounts_broken l n = any_below account_count (account_broken l n)

-- ticks over 2^31 times them; lost, idle, backward or untimed above them
unfoldable pub counts_broken : Ledger → ℕ → Bool
counts_broken l n =
    ltb (2 ^ 31 * n) (get_or l.numbers ticks_at 0)
    || (ltb n (get_or l.numbers lost_at 0)
    || (ltb n (get_or l.numbers idle_at 0)
    || (ltb n (get_or l.numbers backward_at 0)
    || ltb n (get_or l.numbers untimed_at 0))))

-- 50
unfoldable pub rule50 : Opening → Phase → Ledger → ℕ → Bool
rule50 o p l n = sizes_broken o || (fill_broken p o.frame || (accounts_broken l n || counts_broken l n))

-- THE ROW, word for word: none of its conditions holds (proofs/Row50.antt shows that 50 is given exactly where one does)
pub record Keeps (o : Opening) (p : Phase) (l : Ledger) (n : ℕ) : Type 0 where
  -- sizes within 45 and 46
  pub frame : Between 1 o.frame frame_most
  pub payload : Between payload_least o.payload payload_most
  -- fill at most the frame size and, in a frame without fault, its bytes under way
  pub fill : FilledBy o p
  -- no byte account over 65,536 × transfers taken
  pub bytes : (k : ℕ) → k < account_count → bytes_of l k ≤ transfer_most * n
  -- ticks not over 2^31 × them
  pub ticks : get_or l.numbers ticks_at 0 ≤ 2 ^ 31 * n
  -- no other count above them
  pub counts : (k : ℕ) → k < account_count → count_of l k ≤ n
  pub lost : get_or l.numbers lost_at 0 ≤ n
  pub idle : get_or l.numbers idle_at 0 ≤ n
  pub backward : get_or l.numbers backward_at 0 ≤ n
  pub untimed : get_or l.numbers untimed_at 0 ≤ n
