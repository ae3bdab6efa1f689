-- What the room's length decides.
use Rattle.rules.specs.Verdicts.{accept, refuse}
use Prim.Native.Nat.{ℕ, ◌≤◌, ◌<◌}
use mathlib.Core.Path.{◌≡◌, refl, ◌∙◌}
use mathlib.Core.List.{List, ◌++◌}
use lib.ListN.{length, take, drop}
use borrow.Author.Tests.{lt-ltb, le-ltb}
use Rattle.rules.specs.IfElse.{if_else}
use Rattle.camera_settings.specs.declared.Setting.{Setting}
use Rattle.camera_settings.specs.declared.Request.{Request}
use Rattle.packets.specs.Packets.{packet_size, packet_of, room_verdict, leaves}

pub room-short : (room : List ℕ) → length room < packet_size → (refuse 94 0 ≡ room_verdict room) × (room ≡ room)
unfolding if_else
room-short room h = rw (lt-ltb (length room) packet_size h) (refl, refl)

module _ (interface unit : ℕ) (c : Setting) (q : Request) (room packet now : List ℕ) where
  pub room-enough : packet_size ≤ length room → packet ≡ packet_of interface unit c q → now ≡ take (length packet) packet ++ drop (length packet) room
      → (accept ≡ room_verdict room) × (now ≡ leaves accept (packet_of interface unit c q) room)
  unfolding if_else
  room-enough h e z = (rw (le-ltb (length room) packet_size h) refl, z ∙ (rw e refl))
