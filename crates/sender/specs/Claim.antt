-- Document 02, Nine, THE CLAIM: what a receiver makes of the frames of one sender, each sent to its last transfer, offered once and in order.
use Rattle.std.specs.Prelude.{ℕ, ◌+◌, ◌≤◌, ◌<◌, ◌≡◌, Bool, true, false, not, List, [], ◌∷◌, ◌++◌, map, length, get_or, None}
use Rattle.sizes.specs.declared.Opening.{Opening}
use Rattle.sizes.specs.declared.HeaderKind.TheVariants.{Old}
use Rattle.sizes.specs.Framing.{by_eof}
use Rattle.sizes.specs.Sizes.{sizes_broken}
use Rattle.session_rules.specs.declared.Fate.{Fate}
use Rattle.session_rules.specs.declared.Delivery.{Delivery}
use Rattle.session_rules.specs.Entry.{Entry}
use Rattle.session_rules.specs.declared.Account.{Account}
use Rattle.session_rules.specs.declared.Ledger.{Ledger}
use Rattle.session_rules.specs.Accounts.{place_of, lost_at, idle_at, ticks_at, backward_at, untimed_at}
use Rattle.session_rules.specs.Ledger.{count_of, bytes_of}
use Rattle.session_rules.specs.Refusals.{taken_most}
use Rattle.session_rules.specs.declared.Outcome.{Outcome}
use Rattle.session_rules.specs.Refusals.{ledger_of}
use Rattle.session_rules.specs.Session.{fresh, plainly}
use Rattle.session_rules.specs.Call.{Ask}
use Rattle.session_rules.specs.Calls.{Offer, after, offers}
use Rattle.books.specs.Rule.{Item, frames_by, stamp_list, no_stamp, forward, back, between}
use Rattle.books.specs.Offers.{list_of}
use Rattle.books.specs.Alike.{At, NoneRefused, Said, Heard, heard}
use Rattle.sender.specs.Header.{size_of, Stamped}
use Rattle.sender.specs.Transfers.{Frame, cut, sent_of}
use Rattle.sender.specs.Send.{new_sender, SendsAll}

-- A FRAME THAT CAN BE SENT to this receiver: of at least one byte and at most its frame size, with a payload size above the header
pub record Sendable (o : Opening) (f : Frame) : Type 0 where
  pub some : 1 ≤ length f.load
  pub few : length f.load ≤ o.frame
  pub above : size_of f.stamp < o.payload
  pub stamped : Stamped f.stamp

abbrev pub AllSendable : Opening → List Frame → Type 0
AllSendable o [] = Unit {0}
AllSendable o (f ∷ fs) = Sendable o f × AllSendable o fs

-- THE PREMISES: the old kind of header; EOF framing (D1 set); an opening that is accepted, with the sender's payload size and at least the frames' sizes; one
-- buffer of at least the frame size; at most 4,294,967,295 transfers in all
pub record Receives (o : Opening) (buffer : List ℕ) (fs : List Frame) : Type 0 where
  pub kind : o.kind ≡ Old
  pub eof : by_eof o ≡ true
  pub sizes : sizes_broken o ≡ false
  pub room : o.frame ≤ length buffer
  pub each : AllSendable o fs
  pub limit : length (sent_of o.payload false fs) ≤ taken_most

-- a fresh session with a buffer that nobody else writes, and the transfers of the frames from a fresh sender
abbrev pub receiver : Opening → List ℕ → At
receiver o buffer = record { session = fresh o; buffer = buffer }

abbrev pub asks : Opening → List Frame → List Ask
asks o fs = map Ask.transfer (sent_of o.payload false fs)

abbrev pub offered : Opening → List ℕ → List Frame → List Offer
offered o buffer fs = offers (fresh o) buffer (asks o fs)

-- a frame delivered: its length and its stamp, and no layer
abbrev pub delivery_of : Frame → Delivery
delivery_of f = record { len = length f.load; stamp = f.stamp; layer = None }

abbrev pub delivered : Frame → Item
delivered f = record { entry = Entry.Delivered (delivery_of f); load = f.load }

-- one thing for each transfer of a frame but the last, and another for the last; and so frame by frame
abbrev pub lastly : {A : Type 0} → A → A → List (List ℕ) → List A
lastly k d [] = []
lastly k d (t ∷ []) = d ∷ []
lastly k d (t ∷ (u ∷ us)) = k ∷ lastly k d (u ∷ us)

abbrev pub each_frame : {A : Type 0} → A → (Frame → A) → ℕ → Bool → List Frame → List A
each_frame k d payload fid [] = []
each_frame k d payload fid (f ∷ fs) = lastly k (d f) (cut payload fid f) ++ each_frame k d payload (not fid) fs

-- taken with this fate, where no frame is ended by it
abbrev pub said_with : Fate → Said
said_with f = Said.took (Outcome.Taken (plainly f))

abbrev pub said_last : Frame → Said
said_last f = said_with (Fate.Delivered (delivery_of f))

abbrev pub load_of : Frame → List ℕ
load_of f = f.load

abbrev pub said_in : Heard → Said
said_in h = h.said

abbrev pub handed_in : Heard → List ℕ
handed_in h = h.handed

-- the stamps of the frames in order, and how many have none
abbrev pub stamps_in : List Frame → List ℕ
stamps_in [] = []
stamps_in (f ∷ fs) = stamp_list f.stamp ++ stamps_in fs

abbrev pub plain_in : List Frame → ℕ
plain_in [] = 0
plain_in (f ∷ fs) = no_stamp f.stamp + plain_in fs

-- the receiver's ledger
abbrev pub ledger_in : Opening → List ℕ → List Frame → Ledger
ledger_in o buffer fs = ledger_of (after (fresh o) (offered o buffer fs))

pub record Arrives (o : Opening) (buffer : List ℕ) (fs : List Frame) : Type 0 where
  -- a fresh sender writes these transfers, call after call and frame after frame
  pub sent : SendsAll o.payload new_sender fs
  -- none of the calls is refused
  pub taken : NoneRefused (receiver o buffer) (asks o fs)
  -- each transfer is kept but for a frame's last, which is delivered with length and stamp
  pub answers : map said_in (heard (receiver o buffer) (asks o fs)) ≡ each_frame (said_with Fate.Kept) said_last o.payload false fs
  -- at that call the buffer's first bytes are the frame, byte for byte
  pub bytes : map handed_in (heard (receiver o buffer) (asks o fs)) ≡ each_frame [] load_of o.payload false fs
  -- the frames of the list are the sent ones
  pub frames : frames_by o (list_of o (offered o buffer fs)) ≡ map delivered fs
  -- no account but headers and delivered is nonzero, neither in bytes nor in count
  pub others : (a : Account) → (a ≡ Account.Headers → ⊥) → (a ≡ Account.Delivered → ⊥)
      → (bytes_of (ledger_in o buffer fs) (place_of a) ≡ 0) × (count_of (ledger_in o buffer fs) (place_of a) ≡ 0)
  -- of the other counts lost and idle are zero, and ticks, backward and untimed are as the stamps of the frames say
  pub losses : get_or (ledger_in o buffer fs).numbers lost_at 0 ≡ 0
  pub idles : get_or (ledger_in o buffer fs).numbers idle_at 0 ≡ 0
  pub ticks : get_or (ledger_in o buffer fs).numbers ticks_at 0 ≡ between forward (stamps_in fs)
  pub backward : get_or (ledger_in o buffer fs).numbers backward_at 0 ≡ between back (stamps_in fs)
  pub untimed : get_or (ledger_in o buffer fs).numbers untimed_at 0 ≡ plain_in fs
