-- What taking the same transfers over and over makes of a session and of its buffer.
use Rattle.std.specs.Prelude.{ℕ, zero, suc, ◌*◌, ◌/◌, List, length, take, drop}
use Rattle.session_rules.specs.declared.Session.{Session}
use Rattle.session_rules.specs.Session.{open_of, take_of, buffer_of}
use Rattle.sizes.specs.declared.Opening.{Opening}
use Rattle.session_rules.specs.declared.Account.{Account}
use Rattle.session_rules.specs.Accounts.{place_of}
use Rattle.session_rules.specs.Ledger.{bytes_of}
use Rattle.session_rules.specs.Refusals.{posted_of}

pub record State : Type 0 where
  pub session : Session
  pub buffer : List ℕ

-- one transfer
abbrev pub took_one : State → List ℕ → State
took_one a t = record { session = (take_of a.session (length a.buffer) t).session; buffer = buffer_of a.session a.buffer t }

-- the transfer at k, from 0, of those of `size` bytes that lie one after another in l
abbrev pub transfer_at : ℕ → List ℕ → ℕ → List ℕ
transfer_at size l k = take size (drop (k * size) l)

-- the first k of them
unfoldable pub took_first : ℕ → List ℕ → State → ℕ → State
took_first size l a zero = a
took_first size l a (suc k) = took_one (took_first size l a k) (transfer_at size l k)

-- all of them, so many times
unfoldable pub took_all : ℕ → List ℕ → State → ℕ → State
took_all size l a zero = a
took_all size l a (suc i) = took_first size l (took_all size l a i) (length l / size)

abbrev pub opened : Opening → List ℕ → State
opened o b = record { session = (open_of o (length b)).session; buffer = b }

-- the bytes delivered
abbrev pub delivered_of : State → ℕ
delivered_of a = bytes_of (posted_of a.session) (place_of Account.Delivered)
