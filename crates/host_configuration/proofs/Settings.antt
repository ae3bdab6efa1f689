-- The settings of an interface of a configuration.
use Rattle.alternate_settings.specs.declared.Setting.{Setting}
use Rattle.std.specs.Prelude.{Option}
use Prim.Native.Nat.{ℕ, ◌≤◌, ◌<◌}
use mathlib.Core.Path.{◌≡◌, refl}
use mathlib.Core.List.{List}
use lib.ListN.{get_or}
use lib.Dec.{eqb}
use borrow.Author.Tests.{eq-eqb, ne_eqb}
use native.Mathlib.Omega.{arith}
use Rattle.rules.specs.IfElse.{if_else}
use Rattle.rules.proofs.Places.{first-place}
use Rattle.interfaces.specs.Limits.{no_stream}
use Rattle.interfaces.specs.Inner.{streams_of, place_of}
use Rattle.interfaces.specs.declared.Stream.{Stream}
use Rattle.interfaces.proofs.Listing.{streams-few}
use Rattle.alternate_settings.specs.Inner.{settings_of, kth_of}
use Rattle.configuration.specs.Inner.{ConfigurationIs, laid, blocks, sound, refused_by, accepted_with}
use Rattle.configuration.specs.declared.Configuration.{Configuration}
use Rattle.picking.specs.Inner.{settings_in}
use Rattle.host_configuration.specs.Told.{no_setting, setting_told}
use Rattle.host_configuration.specs.declared.SettingTold.{SettingTold}

-- a configuration has at most 8 streams, a refused one none
pub few-streams : (s : List ℕ) (c : Configuration) → ConfigurationIs s c → c.count ≤ 8
unfolding refused_by accepted_with
few-streams s c (laid k o e) = omega arith
few-streams s c (blocks k o e l) = omega arith
few-streams s c (sound e l) = streams-few s (streams_of s) refl

pub place_in : (l : List Stream) (n i k : ℕ) → k ≡ place_of l n i → (k ≡ n → ⊥) → n ≤ 8 → k < 8
place_in l n i k e h b = let w = (first-place (λ j. eqb (get_or l j no_stream).interface i) n).within in omega (arith, e)

module _ (s : List ℕ) (l : List Stream) (n i k : ℕ) (e : k ≡ place_of l n i) (j : ℕ) where
  pub no_such : k ≡ n → (r : SettingTold) → r ≡ no_setting → r ≡ setting_told (kth_of (settings_in s l n i) j)
  unfolding settings_in kth_of if_else
  no_such h r g = rw (← e, eq-eqb k n h) g

  pub setting-told : (k ≡ n → ⊥) → (c : Option Setting) → c ≡ kth_of (settings_of s i (get_or l k no_stream).endpoint) j
      → (r : SettingTold) → r ≡ setting_told c → r ≡ setting_told (kth_of (settings_in s l n i) j)
  unfolding settings_in if_else
  setting-told h c f r g = rw (← e, ne_eqb k n h, ← f) g
