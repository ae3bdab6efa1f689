-- The promises of the crate leave one answer and one content of the room.
use Rattle.session_rules.specs.Options.{Stamp}
use Prim.Native.Nat.{ℕ}
use mathlib.Core.Path.{◌≡◌, sym, ◌∙◌}
use mathlib.Core.List.{List}
use lib.ListN.{length}
use Rattle.sender.specs.declared.Sender.{Sender}
use Rattle.sender.specs.declared.Sent.{Sent}
use Rattle.sender.specs.Send.{new_sender, next_of, send_of, room_of}

pub new-unique : (a b : Sender) → a ≡ new_sender → b ≡ new_sender → a ≡ b
new-unique a b e f = e ∙ sym f

pub next-unique : (x a b : Sender) → a ≡ next_of x → b ≡ next_of x → a ≡ b
next-unique x a b e f = e ∙ sym f

pub send-unique : (x : Sender) (l : List ℕ) (payload : ℕ) (s : Stamp) (room : List ℕ) (a b : Sent) (y z : List ℕ)
    → a ≡ send_of x l payload s (length room) → y ≡ room_of x l payload s room → b ≡ send_of x l payload s (length room) → z ≡ room_of x l payload s room → (a ≡ b) × (y ≡ z)
send-unique x l payload s room a b y z e f g h = (e ∙ sym g, f ∙ sym h)
