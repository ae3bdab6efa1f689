-- A sender as two words that a C host keeps, the FID and how many bytes of the frame are sent; and what a call tells and leaves.
use Rattle.session_rules.specs.Options.{Stamp}
use Rattle.std.specs.Prelude.{ℕ, Bool, true, false, List, [], ◌∷◌, length, get_or, ltb, eqb, None, Some}
use Rattle.rules.specs.IfElse.{if_else}
use Rattle.sender.specs.Send.{next_of, send_of, room_of}
use Rattle.sender.specs.declared.Sender.{Sender}
use Rattle.sender.specs.declared.Sending.{Sending}
use Rattle.sender.specs.declared.Sending.TheVariants.{Refused, Done, Wrote}
use Rattle.host_told.specs.Told.{unknown}
use Rattle.host_sender.specs.declared.SentTold.{SentTold}

abbrev pub one_of : Bool → ℕ
one_of true = 1
one_of false = 0

-- the words of a sender, and the sender that words are
abbrev pub words_of : Sender → List ℕ
words_of x = one_of x.fid ∷ x.at ∷ []

abbrev pub sender_in : List ℕ → Sender
sender_in w = record { fid = eqb (get_or w 0 0) 1; at = get_or w 1 0 }

-- no sender has these words: the FID is neither 0 nor 1
abbrev pub unsound_in : List ℕ → Bool
unsound_in w = ltb 1 (get_or w 0 0)

-- a stamp, or none where `stamped` is 0
unfoldable pub stamp_in : ℕ → ℕ → Stamp
stamp_in stamped x = if_else (eqb stamped 0) None (Some x)

-- what is told of a call: 80, 81 or 82; or the bytes of the transfer, 0 after the last
abbrev pub sending_told : Sending → SentTold
sending_told (Refused k) = record { number = k; zero = 0; length = 0 }
sending_told Done = record { number = 0; zero = 0; length = 0 }
sending_told (Wrote n) = record { number = 0; zero = 0; length = n }

abbrev pub unsound_told : SentTold
unsound_told = record { number = unknown; zero = 0; length = 0 }

-- of a sender's words: the sender's own call
abbrev pub worked_told : List ℕ → List ℕ → ℕ → Stamp → List ℕ → SentTold
worked_told w frame payload s room = sending_told (send_of (sender_in w) frame payload s (length room)).sending

abbrev pub worked_words : List ℕ → List ℕ → ℕ → Stamp → List ℕ → List ℕ
worked_words w frame payload s room = words_of (send_of (sender_in w) frame payload s (length room)).sender

abbrev pub worked_room : List ℕ → List ℕ → ℕ → Stamp → List ℕ → List ℕ
worked_room w frame payload s room = room_of (sender_in w) frame payload s room

-- ONE CALL: what is told, and what stands in the words and in the room after it; words that no sender has stay, and nothing is written
unfoldable pub sent_told : List ℕ → List ℕ → ℕ → Stamp → List ℕ → SentTold
sent_told w frame payload s room = if_else (unsound_in w) unsound_told (worked_told w frame payload s room)

unfoldable pub words_left : List ℕ → List ℕ → ℕ → Stamp → List ℕ → List ℕ
words_left w frame payload s room = if_else (unsound_in w) w (worked_words w frame payload s room)

unfoldable pub room_left : List ℕ → List ℕ → ℕ → Stamp → List ℕ → List ℕ
room_left w frame payload s room = if_else (unsound_in w) room (worked_room w frame payload s room)

-- THE NEXT FRAME
unfoldable pub next_told : List ℕ → ℕ
next_told w = if_else (unsound_in w) unknown 0

unfoldable pub next_left : List ℕ → List ℕ
next_left w = if_else (unsound_in w) w (words_of (next_of (sender_in w)))
