-- Document 02, Eight: "the recorder's polling loop keeps one ledger and changes that one". What it keeps, call after call: the record's bytes, and the rest of the session beside them.
use Rattle.std.specs.Prelude.{ℕ, List, [], ◌∷◌, length, replicate}
use Rattle.sizes.specs.declared.Opening.{Opening}
use Rattle.session_rules.specs.declared.Rest.{Rest}
use Rattle.session_rules.specs.declared.Session.{Session}
use Rattle.session_rules.specs.Session.{fresh}
use Rattle.session_rules.specs.Calls.{Offer}
use Rattle.places.specs.Places.{record_size}
use Rattle.ledger_record.specs.Recorded.{record_in, take_in, take_left, lost_in, lost_left, close_in, close_left}

pub record Kept : Type 0 where
  pub bytes : List ℕ
  pub rest : Rest

-- it begins with 320 zero bytes and the rest of a fresh session
abbrev pub begun : Opening → Kept
begun o = record { bytes = replicate record_size 0; rest = (fresh o).rest }

abbrev pub onward : Kept → Offer → Kept
onward k (Offer.take buffer t) = record { bytes = take_left k.bytes k.rest (length buffer) t; rest = (take_in k.bytes k.rest (length buffer) t).rest }
onward k Offer.lost = record { bytes = lost_left k.bytes k.rest; rest = (lost_in k.bytes k.rest).rest }
onward k Offer.close = record { bytes = close_left k.bytes k.rest; rest = (close_in k.bytes k.rest).rest }

abbrev pub kept : Kept → List Offer → Kept
kept k [] = k
kept k (x ∷ xs) = kept (onward k x) xs

-- what is kept of a session
abbrev pub kept_of : Session → Kept
kept_of s = record { bytes = record_in s; rest = s.rest }
