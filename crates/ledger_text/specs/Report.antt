-- Document 01, "The ledger program": what is printed of a trace, byte by byte.
use Rattle.std.specs.Prelude.{List, [], ◌∷◌, ◌++◌, map, ℕ, ◌*◌}
use Prim.Native.String.{String}
use Rattle.session_rules.specs.declared.Account.{Account}
use Rattle.session_rules.specs.Accounts.{accounts, line_count}
use Rattle.trace.specs.declared.State.{State}
use Rattle.trace.specs.declared.State.TheVariants.{Good, Bad, Refused}
use Rattle.frame_lines.specs.declared.Show.{Show}
use Rattle.frame_lines.specs.declared.Show.TheVariants.{Nothing, Replay, Frames}
use Rattle.refusal_words.specs.Words.{words_of}
use Rattle.text.specs.Text.{Row, bytes, number, line, lines}

-- the accounts' names
abbrev pub name_of : Account → String
name_of Account.Delivered = "delivered"
name_of Account.Gap = "gap"
name_of Account.Error = "error"
name_of Account.Clock = "clock"
name_of Account.Long = "long"
name_of Account.Cut = "cut"
name_of Account.Empty = "empty"
name_of Account.Still = "still"
name_of Account.Mixed = "mixed"
name_of Account.UnderWay = "under way"
name_of Account.Stray = "stray"
name_of Account.Unreadable = "unreadable"
name_of Account.Headers = "headers"

-- an account's line has its count and its bytes; any other line has one count
abbrev pub account_row : Account → Row
account_row a = record { name = bytes (name_of a); count = 2 }

abbrev pub single : String → Row
single s = record { name = bytes s; count = 1 }

-- THE LINES: the accounts in their order, then the other counts
unfoldable pub rows : List Row
rows = map account_row accounts ++ (single "lost" ∷ single "idle" ∷ single "ticks" ∷ single "backward" ∷ single "untimed" ∷ [])

-- THE TEXT: the ledger's lines, or one line in their place
abbrev pub text_of : State → List ℕ → List ℕ
text_of Good ns = lines rows ns
text_of (Bad n) ns = line (bytes "bad record") (n ∷ [])
text_of (Refused k n) ns = bytes "refused" ++ (number k ++ line (bytes " at record") (n ∷ []))

-- WHAT STANDS AFTER THE LINES of the frames: that text; but a list of frames has none where the trace is good
abbrev pub end_text : Show → State → List ℕ → List ℕ
end_text Nothing s ns = text_of s ns
end_text Replay s ns = text_of s ns
end_text Frames Good ns = []
end_text Frames (Bad n) ns = text_of (Bad n) ns
end_text Frames (Refused k n) ns = text_of (Refused k n) ns

-- OF AN OPENING THAT IS REFUSED: its number, and on the next line its words
abbrev pub shut_text : ℕ → List ℕ
shut_text k = line (bytes "refused") (k ∷ []) ++ words_of k

-- enough for any report: a line has at most 64 bytes
abbrev pub room : ℕ
room = 64 * line_count
