-- Document 02, Nine: one call of a sender. What refuses it, what it answers, and what it leaves in the room that is lent.
use Rattle.session_rules.specs.Options.{Stamp}
use Rattle.std.specs.Prelude.{ℕ, zero, suc, ◌+◌, ◌-◌, ◌≤◌, min, ◌≡◌, Bool, true, false, not, ◌&&◌, ◌||◌, List, [], ◌∷◌, ◌++◌, length, take, drop, ltb, leb}
use Rattle.rules.specs.Numbered.{Row, row, first_row, NoneOf}
use Rattle.sizes.specs.Sizes.{payload_most, frame_size_broken}
use Rattle.sender.specs.declared.Sender.{Sender}
use Rattle.sender.specs.declared.Sending.{Sending}
use Rattle.sender.specs.declared.Sending.TheVariants.{Refused, Done, Wrote}
use Rattle.sender.specs.declared.Sent.{Sent}
use Rattle.sender.specs.Header.{size_of, written}
use Rattle.sender.specs.Transfers.{Frame, data_most, cut}

-- A SENDER: a fresh one's first frame has FID 0; the next frame has the other FID
abbrev pub new_sender : Sender
new_sender = record { fid = false; at = 0 }

abbrev pub next_of : Sender → Sender
next_of x = record { fid = not x.fid; at = 0 }

-- THE NEXT TRANSFER of a frame of which `at` bytes are sent: its header, with EOF where the frame ends in it, then its data
abbrev pub transfer_at : ℕ → Bool → Stamp → List ℕ → ℕ → List ℕ
transfer_at payload fid s l at = written fid (leb (length l) (at + data_most payload s)) s ++ take (data_most payload s) (drop at l)

-- the bytes of its data, of a frame of n bytes: the most that there can be, or what is left; and of the whole transfer
abbrev pub part_size : ℕ → Stamp → ℕ → ℕ → ℕ
part_size payload s n at = min (data_most payload s) (n - at)

abbrev pub transfer_size : ℕ → Stamp → ℕ → ℕ → ℕ
transfer_size payload s n at = size_of s + part_size payload s n at

-- WHAT REFUSES A CALL for a frame of n bytes, in the order in which it is checked: 80 the frame is empty or over 16,777,216 bytes; 81 the payload size is not
-- above the header or is over 65,536; 82 there is a next transfer, and the room is under it
unfoldable pub payload_broken : ℕ → Stamp → Bool
payload_broken payload s = leb payload (size_of s) || ltb payload_most payload

unfoldable pub room_short : ℕ → ℕ → ℕ → Stamp → ℕ → Bool
room_short at n payload s room = ltb at n && ltb room (transfer_size payload s n at)

abbrev pub frame_rows : ℕ → ℕ → Stamp → List Row
frame_rows n payload s = row 80 (frame_size_broken n) ∷ row 81 (payload_broken payload s) ∷ []

abbrev pub send_rows : ℕ → ℕ → ℕ → Stamp → ℕ → List Row
send_rows at n payload s room = frame_rows n payload s ++ (row 82 (room_short at n payload s room) ∷ [])

-- ONE CALL: refused, and everything as it was; or the next transfer is written; or, after the last, there is none, and everything is as it was
abbrev pub wrote_of : Sender → ℕ → ℕ → Stamp → Sent
wrote_of x n payload s = record {
  sender = record { fid = x.fid; at = x.at + part_size payload s n x.at };
  sending = Wrote (transfer_size payload s n x.at);
}

abbrev pub sent_by : ℕ → Bool → Sender → ℕ → ℕ → Stamp → Sent
sent_by (suc k) more x n payload s = record { sender = x; sending = Refused (suc k) }
sent_by zero true x n payload s = wrote_of x n payload s
sent_by zero false x n payload s = record { sender = x; sending = Done }

unfoldable pub send_of : Sender → List ℕ → ℕ → Stamp → ℕ → Sent
send_of x l payload s room = sent_by (first_row (send_rows x.at (length l) payload s room)) (ltb x.at (length l)) x (length l) payload s

-- THE ROOM after it: the transfer at its front and the rest as it was; or no byte is changed
abbrev pub room_by : Sending → List ℕ → List ℕ → List ℕ
room_by (Refused k) t room = room
room_by Done t room = room
room_by (Wrote n) t room = t ++ drop n room

unfoldable pub room_of : Sender → List ℕ → ℕ → Stamp → List ℕ → List ℕ
room_of x l payload s room = room_by (send_of x l payload s (length room)).sending (transfer_at payload x.fid s l x.at) room

-- CALL AFTER CALL of one frame, each with any room of at least the payload size: these transfers are written one by one, and then every call says that there is
-- no more, with any room. What follows is asked of the sender as it is then.
abbrev pub Sends : ℕ → Frame → Sender → List (List ℕ) → (Sender → Type 0) → Type 0
Sends payload f x [] K = ((room : ℕ) → send_of x f.load payload f.stamp room ≡ record { sender = x; sending = Done }) × K x
Sends payload f x (t ∷ ts) K = (room : List ℕ) → payload ≤ length room →
    ((send_of x f.load payload f.stamp (length room)).sending ≡ Wrote (length t))
    × (room_of x f.load payload f.stamp room ≡ t ++ drop (length t) room)
    × Sends payload f (send_of x f.load payload f.stamp (length room)).sender ts K

-- FRAME AFTER FRAME from one sender, each to its last transfer: the transfers of each are its cut
abbrev pub SendsAll : ℕ → Sender → List Frame → Type 0
SendsAll payload x [] = Unit {0}
SendsAll payload x (f ∷ fs) = Sends payload f x (cut payload x.fid f) (λ y. SendsAll payload (next_of y) fs)

-- frames that neither 80 nor 81 refuses
abbrev pub AllFree : ℕ → List Frame → Type 0
AllFree payload [] = Unit {0}
AllFree payload (f ∷ fs) = NoneOf (frame_rows (length f.load) payload f.stamp) × AllFree payload fs
