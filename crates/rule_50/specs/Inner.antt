-- Rule 50 part by part, where the ledger's numbers are lent. Nothing here needs to be believed: proofs/Parts.antt puts the parts together.
use Rattle.std.specs.Prelude.{ℕ, ◌*◌, List, Bool, not, ◌||◌, ◌&&◌, ltb, eqb, None}
use Rattle.rules.specs.Numbered.{any_below}
use Rattle.sizes.specs.declared.Opening.{Opening}
use Rattle.sizes.specs.Sizes.{sizes_broken}
use Rattle.session_rules.specs.declared.Phase.{Phase}
use Rattle.session_rules.specs.Track.{under_count, under_bytes}
use Rattle.session_rules.specs.Accounts.{account_count, under_at}
use Rattle.ledger.specs.Inner.{ledger_with}
use Rattle.session_rules.specs.Rule50.{transfer_most, fill_broken, account_broken, counts_broken}

-- the account of the frame under way is the track's,
abbrev pub under_broken : Phase → ℕ → Bool
under_broken p n = ltb n (under_count p) || ltb (transfer_most * n) (under_bytes p)

-- every other account, and the counts, are what is posted,
abbrev pub posted_account : List ℕ → ℕ → ℕ → Bool
posted_account l n k = not (eqb k under_at) && account_broken (ledger_with l None) n k

unfoldable pub posted_broken : List ℕ → ℕ → Bool
posted_broken l n = any_below account_count (posted_account l n) || counts_broken (ledger_with l None) n

-- and all that is not posted is in the rest of the record
unfoldable pub rest_broken : Opening → Phase → ℕ → Bool
rest_broken o p n = sizes_broken o || (fill_broken p o.frame || under_broken p n)
