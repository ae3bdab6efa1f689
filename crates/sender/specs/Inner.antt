-- What the contracts of the helpers cite, and a reader need not believe.
use Rattle.session_rules.specs.Options.{Stamp}
use Rattle.std.specs.Prelude.{ℕ, ◌≤◌, ◌<◌}
use Rattle.sizes.specs.Sizes.{frame_most, payload_most}
use Rattle.sender.specs.declared.Sender.{Sender}
use Rattle.sender.specs.Header.{size_of}
use Rattle.sender.specs.Send.{transfer_size}

-- there is a next transfer, of a frame of n bytes, and nothing refuses it
pub record Ready (x : Sender) (n payload : ℕ) (s : Stamp) (room : ℕ) : Type 0 where
  pub few : n ≤ frame_most
  pub above : size_of s < payload
  pub most : payload ≤ payload_most
  pub more : x.at < n
  pub enough : transfer_size payload s n x.at ≤ room
