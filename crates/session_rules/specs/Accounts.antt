-- The accounts in the order of print, and where each number of the ledger stands. One account more is one more in the list; all else follows.
use Rattle.std.specs.Prelude.{ℕ, ◌+◌, ◌*◌, List, [], ◌∷◌, length}
use Rattle.session_rules.specs.declared.Reason.{Reason}
use Rattle.session_rules.specs.declared.Reason.TheVariants.{Gap, Error, Clock, Mixed, Long, Cut, Empty}
use Rattle.session_rules.specs.declared.Account.{Account}

abbrev pub accounts : List Account
accounts =
    Account.Delivered
    ∷ Account.Gap
    ∷ Account.Error
    ∷ Account.Clock
    ∷ Account.Long
    ∷ Account.Cut
    ∷ Account.Empty
    ∷ Account.Still
    ∷ Account.Mixed
    ∷ Account.UnderWay
    ∷ Account.Stray
    ∷ Account.Unreadable
    ∷ Account.Headers
    ∷ []

abbrev pub account_count : ℕ
account_count = length accounts

-- an account's place in that list, from 0 (proofs/Places.antt shows that it is)
abbrev pub place_of : Account → ℕ
place_of Account.Delivered = 0
place_of Account.Gap = 1
place_of Account.Error = 2
place_of Account.Clock = 3
place_of Account.Long = 4
place_of Account.Cut = 5
place_of Account.Empty = 6
place_of Account.Still = 7
place_of Account.Mixed = 8
place_of Account.UnderWay = 9
place_of Account.Stray = 10
place_of Account.Unreadable = 11
place_of Account.Headers = 12

-- the account of a frame that was not delivered
abbrev pub account_for : Reason → Account
account_for Gap = Account.Gap
account_for Error = Account.Error
account_for Clock = Account.Clock
account_for Mixed = Account.Mixed
account_for Long = Account.Long
account_for Cut = Account.Cut
account_for Empty = Account.Empty

-- an account's count and bytes stand side by side; then come the other counts
abbrev pub count_at : ℕ → ℕ
count_at k = 2 * k

abbrev pub bytes_at : ℕ → ℕ
bytes_at k = 2 * k + 1

abbrev pub lost_at : ℕ
lost_at = 2 * account_count

abbrev pub idle_at : ℕ
idle_at = lost_at + 1

abbrev pub ticks_at : ℕ
ticks_at = lost_at + 2

abbrev pub backward_at : ℕ
backward_at = lost_at + 3

abbrev pub untimed_at : ℕ
untimed_at = lost_at + 4

abbrev pub number_count : ℕ
number_count = lost_at + 5

-- a line of print for each account, and one for each other count
abbrev pub line_count : ℕ
line_count = account_count + 5

-- the place of the account of the frame under way
abbrev pub under_at : ℕ
under_at = place_of Account.UnderWay
