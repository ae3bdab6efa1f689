-- What the contracts of the helpers cite, and a reader need not believe: the same of one request, and of one setting and request.
use Rattle.std.specs.Prelude.{ℕ, ◌≡◌, List}
use Rattle.camera_settings.specs.declared.Setting.{Setting}
use Rattle.camera_settings.specs.declared.Request.{Request}
use Rattle.packets.specs.Packets.{packet_of}
use Rattle.packets.specs.declared.Reading.{Reading}
use Rattle.packets.specs.declared.Reading.TheVariants.{Asks, Refused}

pub data SpeltWith (interface : ℕ) (q : Request) (bytes : List ℕ) : Reading → Type 0 where
  with : (unit : ℕ) (c : Setting) → bytes ≡ packet_of interface unit c q → SpeltWith interface q bytes (Asks unit c q)
  with_none : ((unit : ℕ) (c : Setting) → bytes ≡ packet_of interface unit c q → ⊥) → SpeltWith interface q bytes (Refused 95 0)

pub data SpeltBy (interface : ℕ) (c : Setting) (q : Request) (bytes : List ℕ) : Reading → Type 0 where
  by : (unit : ℕ) → bytes ≡ packet_of interface unit c q → SpeltBy interface c q bytes (Asks unit c q)
  by-none : ((unit : ℕ) → bytes ≡ packet_of interface unit c q → ⊥) → SpeltBy interface c q bytes (Refused 95 0)
