-- Source document 000, 4.1 and 4.2.2.3: the setup packet of a request to a processing unit's control; and document 02, Eleven: writing it, and which packet bytes are.
use Rattle.rules.specs.Verdicts.{Verdict, accept, refuse}
use Rattle.std.specs.Prelude.{ℕ, ◌≡◌, List, [], ◌∷◌, ◌++◌, length, drop, ltb, Err, Ok}
use Rattle.rules.specs.IfElse.{if_else}
use Rattle.camera_settings.specs.Numbers.{selector_of, code_of, type_of}
use Rattle.camera_settings.specs.declared.Setting.{Setting}
use Rattle.camera_settings.specs.declared.Request.{Request}
use Rattle.packets.specs.declared.Reading.{Reading}
use Rattle.packets.specs.declared.Reading.TheVariants.{Asks, Refused}

abbrev pub packet_size : ℕ
packet_size = 8

-- the bytes of the number in the data stage
abbrev pub number_size : ℕ
number_size = 2

-- bmRequestType; bRequest; wValue, with the selector in its high byte; wIndex, with the interface in its low byte and the unit's ID in its high byte; wLength
abbrev pub packet_of : ℕ → ℕ → Setting → Request → List ℕ
packet_of interface unit c q =
    type_of q ∷
    code_of q ∷
    0 ∷ selector_of c ∷
    interface ∷ unit ∷
    number_size ∷ 0 ∷
    []

-- 94: there is room for fewer than 8 bytes
abbrev pub room_verdict : List ℕ → Verdict
room_verdict room = if_else (ltb (length room) packet_size) (refuse 94 0) accept

-- what a verdict leaves in the room: the packet in its first 8 bytes, and the rest as it was; a refusal changes no byte
abbrev pub leaves : Verdict → List ℕ → List ℕ → List ℕ
leaves (Ok _) packet room = packet ++ drop packet_size room
leaves (Err r) packet room = room

-- the unit, setting and request whose packet the bytes are; 95 where they are none's
pub data SpeltIs (interface : ℕ) (bytes : List ℕ) : Reading → Type 0 where
  spelt : (unit : ℕ) (c : Setting) (q : Request) → bytes ≡ packet_of interface unit c q → SpeltIs interface bytes (Asks unit c q)
  by-95 : ((unit : ℕ) (c : Setting) (q : Request) → bytes ≡ packet_of interface unit c q → ⊥) → SpeltIs interface bytes (Refused 95 0)
