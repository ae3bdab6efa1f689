-- What each question is answered: what is told of the one answer that the reader gives of the same bytes.
use Rattle.std.specs.Prelude.{ℕ, List, take}
use Rattle.configuration.specs.Inner.{ConfigurationIs}
use Rattle.configuration.specs.declared.Configuration.{Configuration}
use Rattle.alternate_settings.specs.Inner.{kth_of}
use Rattle.picking.specs.Inner.{settings_in, PickIs}
use Rattle.host_told.specs.Told.{verdict_told, From}
use Rattle.host_told.specs.declared.Told.{Told}
use Rattle.host_configuration.specs.Told.{block_there, block_at, setting_told, picked_told}
use Rattle.host_configuration.specs.declared.SettingTold.{SettingTold}
use Rattle.host_configuration.specs.declared.PickedTold.{PickedTold}

-- ---- the configuration s, and its interface i
abbrev pub ConfigurationTold : List ℕ → Told → Type 0
ConfigurationTold s r = From (ConfigurationIs s) (λ (c : Configuration). verdict_told c.verdict) r

-- the block at place k: whether there is one, and where it lies
abbrev pub BlockThere : List ℕ → ℕ → ℕ → Type 0
BlockThere s k r = From (ConfigurationIs s) (λ (c : Configuration). block_there c.verdict (take c.count c.streams) k) r

abbrev pub BlockAnswer : List ℕ → ℕ → List ℕ → Type 0
BlockAnswer s k r = From (ConfigurationIs s) (λ (c : Configuration). block_at c.verdict c.control (take c.count c.streams) k) r

abbrev pub SettingAnswer : List ℕ → ℕ → ℕ → SettingTold → Type 0
SettingAnswer s i k r = From (ConfigurationIs s) (λ (c : Configuration). setting_told (kth_of (settings_in s c.streams c.count i) k)) r

abbrev pub PickAnswer : List ℕ → ℕ → ℕ → PickedTold → Type 0
PickAnswer s i p r = From (PickIs s i p) picked_told r
