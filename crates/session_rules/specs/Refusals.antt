-- Document 01, "Numbers", 45 to 47, 50 to 53 and 55: what refuses an opening and what refuses a call.
use Rattle.std.specs.Prelude.{ℕ, List, [], ◌∷◌, ◌++◌, Bool, ltb, eqb}
use Rattle.rules.specs.Numbered.{Row, row}
use Rattle.sizes.specs.declared.Opening.{Opening}
use Rattle.sizes.specs.Sizes.{frame_size_broken, payload_size_broken}
use Rattle.session_rules.specs.declared.Ledger.{Ledger}
use Rattle.session_rules.specs.declared.Session.{Session}
use Rattle.session_rules.specs.Ledger.{shown_of}
use Rattle.session_rules.specs.Rule50.{transfer_most, rule50, Keeps}

-- the most transfers taken
abbrev pub taken_most : ℕ
taken_most = 4_294_967_295

-- 45, 46 and 47, in this order
unfoldable pub opening_rows : Opening → ℕ → List Row
opening_rows o room = row 45 (frame_size_broken o.frame) ∷ row 46 (payload_size_broken o.payload) ∷ row 47 (ltb room o.frame) ∷ []

-- what close, a lost report and a transfer meet, in this order
abbrev pub close_rows_by : Bool → Bool → List Row
close_rows_by broken closed = row 50 broken ∷ row 53 closed ∷ []

abbrev pub lost_rows_by : Bool → Bool → ℕ → List Row
lost_rows_by broken closed taken = close_rows_by broken closed ++ (row 52 (eqb taken taken_most) ∷ [])

abbrev pub take_rows_by : Bool → Bool → ℕ → ℕ → ℕ → ℕ → List Row
take_rows_by broken closed taken frame room n =
    lost_rows_by broken closed taken ++ (row 51 (ltb room frame) ∷ row 55 (ltb transfer_most n) ∷ [])

-- what is posted so far; the frame under way is in the track
abbrev pub posted_of : Session → Ledger
posted_of s = record { numbers = s.numbers; last = s.rest.last }

-- the session's ledger: what is posted, with the frame under way in its account
abbrev pub ledger_of : Session → Ledger
ledger_of s = shown_of (posted_of s) s.rest.track.phase

-- 50
abbrev pub record_broken : Session → Bool
record_broken s = rule50 s.rest.opening s.rest.track.phase (ledger_of s) s.rest.taken

-- none of its row's conditions holds
abbrev pub Keeps50 : Session → Type 0
Keeps50 s = Keeps s.rest.opening s.rest.track.phase (ledger_of s) s.rest.taken

-- what close, a lost report and a transfer meet with this record
abbrev pub close_rows : Session → List Row
close_rows s = close_rows_by (record_broken s) s.rest.closed

abbrev pub lost_rows : Session → List Row
lost_rows s = lost_rows_by (record_broken s) s.rest.closed s.rest.taken

abbrev pub take_rows : Session → ℕ → ℕ → List Row
take_rows s room n = take_rows_by (record_broken s) s.rest.closed s.rest.taken s.rest.opening.frame room n
