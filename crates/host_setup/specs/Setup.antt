-- Settings and requests by the class's numbers, and what a C host is told of what `setup` and `nearest` answer. `s` is the control block.
use Rattle.rules.specs.Verdicts.{Verdict}
use Rattle.std.specs.Prelude.{ℕ, ◌≡◌, List}
use Rattle.camera_settings.specs.Numbers.{selector_of, code_of}
use Rattle.camera_settings.specs.declared.Setting.{Setting}
use Rattle.camera_settings.specs.declared.Request.{Request}
use Rattle.packets.specs.Packets.{packet_of, leaves}
use Rattle.packets.specs.declared.Reading.{Reading}
use Rattle.packets.specs.declared.Reading.TheVariants.{Asks, Refused}
use Rattle.setup.specs.Setup.{BuildIs, ReadIs}
use Rattle.nearest.specs.Answer.{NearestIs}
use Rattle.nearest.specs.declared.Moved.{Moved}
use Rattle.host_told.specs.Told.{number_of, verdict_told, unknown, unknown_told, From}
use Rattle.host_told.specs.declared.Told.{Told}
use Rattle.host_setup.specs.declared.AskedTold.{AskedTold}
use Rattle.host_setup.specs.declared.MovedTold.{MovedTold}

-- no setting has this selector, no request this code
abbrev pub NoSetting : ℕ → Type 0
NoSetting n = (c : Setting) → n ≡ selector_of c → ⊥

abbrev pub NoRequest : ℕ → Type 0
NoRequest n = (q : Request) → n ≡ code_of q → ⊥

-- of a setting, and the request of code q: what is told, and what is left in the room
pub data SetupWith (s : List ℕ) (interface unit : ℕ) (c : Setting) (q : ℕ) (room : List ℕ) : Told → List ℕ → Type 0 where
  by-request : NoRequest q → SetupWith s interface unit c q room unknown_told room
  with-request : (d : Request) → q ≡ code_of d → (v : Verdict) → BuildIs s unit c room v
      → SetupWith s interface unit c q room (verdict_told v) (leaves v (packet_of interface unit c d) room)

-- BUILDING, of the setting of selector n and the request of code q
pub data SetupIs (s : List ℕ) (interface unit n q : ℕ) (room : List ℕ) : Told → List ℕ → Type 0 where
  by-setting : NoSetting n → SetupIs s interface unit n q room unknown_told room
  with-setting : (c : Setting) → n ≡ selector_of c → (r : Told) (left : List ℕ) → SetupWith s interface unit c q room r left → SetupIs s interface unit n q room r left

-- READING BACK
abbrev pub asked_told : Reading → AskedTold
asked_told (Refused k o) = record { number = k; unit = 0; setting = 0; request = 0; zero = 0; offset = o }
asked_told (Asks u c q) = record { number = 0; unit = u; setting = selector_of c; request = code_of q; zero = 0; offset = 0 }

abbrev pub AskedAnswer : List ℕ → ℕ → List ℕ → AskedTold → Type 0
AskedAnswer s interface bytes r = From (ReadIs s interface bytes) asked_told r

-- THE NEAREST; the word is 0 where it is refused
abbrev pub moved_told : Moved → MovedTold
moved_told m = record { number = number_of m.verdict; word = m.word }

abbrev pub unknown_moved : MovedTold
unknown_moved = record { number = unknown; word = 0 }

pub data MovedIs (n minimum maximum step wanted : ℕ) : MovedTold → Type 0 where
  by-setting : NoSetting n → MovedIs n minimum maximum step wanted unknown_moved
  with-setting : (c : Setting) → n ≡ selector_of c → (m : Moved) → NearestIs c minimum maximum step wanted m → MovedIs n minimum maximum step wanted (moved_told m)
