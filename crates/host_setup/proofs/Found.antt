-- What the functions have, in the order of their code: the setting and the request that a number is, or none.
use Rattle.std.specs.Prelude.{None, Option, Some}
use Rattle.rules.specs.Verdicts.{Verdict}
use Prim.Native.Nat.{ℕ}
use mathlib.Core.Path.{◌≡◌}
use mathlib.Core.List.{List}
use Rattle.camera_settings.specs.Numbers.{selector_of, code_of, SettingIs, SettingIs.has-selector, SettingIs.no-selector, RequestIs, RequestIs.has_code, RequestIs.no_code}
use Rattle.camera_settings.specs.declared.Setting.{Setting}
use Rattle.camera_settings.specs.declared.Request.{Request}
use Rattle.packets.specs.Packets.{packet_of, leaves}
use Rattle.packets.specs.declared.Reading.{Reading}
use Rattle.packets.specs.declared.Reading.TheVariants as reading
use Rattle.setup.specs.Setup.{BuildIs}
use Rattle.nearest.specs.Answer.{NearestIs}
use Rattle.nearest.specs.declared.Moved.{Moved}
use Rattle.host_told.specs.Told.{number_of, verdict_told, unknown_told}
use Rattle.host_told.specs.declared.Told.{Told}
use Rattle.host_setup.specs.Setup.{NoSetting, NoRequest, SetupWith, SetupWith.by-request, SetupWith.with-request, SetupIs, SetupIs.by-setting, SetupIs.with-setting, asked_told, moved_told, unknown_moved, MovedIs}
use Rattle.host_setup.specs.Setup as setup
use Rattle.host_setup.specs.declared.AskedTold.{AskedTold}
use Rattle.host_setup.specs.declared.MovedTold.{MovedTold}

a-setting : (n : ℕ) (c : Setting) → SettingIs n (Some c) → n ≡ selector_of c
a-setting n c (has-selector d e) = e

none-setting : (n : ℕ) → SettingIs n None → NoSetting n
none-setting n (no-selector e) = e

a-request : (n : ℕ) (q : Request) → RequestIs n (Some q) → n ≡ code_of q
a-request n q (has_code d e) = e

none-request : (n : ℕ) → RequestIs n None → NoRequest n
none-request n (no_code e) = e

module _ (s : List ℕ) (interface unit n q : ℕ) (room : List ℕ) where
  module _ (f : Option Setting) (h : SettingIs n f) where
    pub no-setting : f ≡ None → (r : Told) → r ≡ unknown_told → SetupIs s interface unit n q room r room
    no-setting e r g = rw g (by-setting (none-setting n (rw e at h)))

    pub this-setting : (c : Setting) → f ≡ Some c → (r : Told) (left : List ℕ) → SetupWith s interface unit c q room r left → SetupIs s interface unit n q room r left
    this-setting c e r left w = with-setting c (a-setting n c (rw e at h)) r left w

  module _ (c : Setting) (f : Option Request) (h : RequestIs q f) where
    pub no-request : f ≡ None → (r : Told) → r ≡ unknown_told → SetupWith s interface unit c q room r room
    no-request e r g = rw g (by-request (none-request q (rw e at h)))

    pub this-request : (d : Request) → f ≡ Some d → (v : Verdict) (left : List ℕ) → BuildIs s unit c room v → left ≡ leaves v (packet_of interface unit c d) room
        → (r : Told) → r ≡ verdict_told v → SetupWith s interface unit c q room r left
    this-request d e v left b l r g = rw (g, l) (with-request d (a-request q d (rw e at h)) v b)

module _ (n minimum maximum step wanted : ℕ) (f : Option Setting) (h : SettingIs n f) where
  pub no_number : f ≡ None → (r : MovedTold) → r ≡ unknown_moved → MovedIs n minimum maximum step wanted r
  no_number e r g = rw g (setup.MovedIs.by-setting (none-setting n (rw e at h)))

  pub this-number : (c : Setting) → f ≡ Some c → (m : Moved) → NearestIs c minimum maximum step wanted m → (r : MovedTold) → r ≡ moved_told m → MovedIs n minimum maximum step wanted r
  this-number c e m b r g = rw g (setup.MovedIs.with-setting c (a-setting n c (rw e at h)) m b)

pub moved_by : (m : Moved) (n : ℕ) → n ≡ number_of m.verdict → record { number = n; word = m.word } ≡ moved_told m
moved_by m n e = rw e

-- what is told of a reading
pub asks-by : (u : ℕ) (c : Setting) (q : Request) (n m : ℕ) → n ≡ selector_of c → m ≡ code_of q
    → record { number = 0; unit = u; setting = n; request = m; zero = 0; offset = 0 } ≡ asked_told (reading.Asks u c q)
asks-by u c q n m e f = rw (e, f)

pub refused-asked : (a : Reading) (k o : ℕ) → a ≡ reading.Refused k o → record { number = k; unit = 0; setting = 0; request = 0; zero = 0; offset = o } ≡ asked_told a
refused-asked a k o e = rw e

pub asks-asked : (a : Reading) (u : ℕ) (c : Setting) (q : Request) → a ≡ reading.Asks u c q → (r : AskedTold) → r ≡ asked_told (reading.Asks u c q) → r ≡ asked_told a
asks-asked a u c q e r g = rw e g
