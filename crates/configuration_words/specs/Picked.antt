-- Which setting is picked, in document 02's words. `s` is the configuration, `i` an interface number, `p` a payload size.
use Rattle.rules.specs.Verdicts.{accept, refuse}
use Rattle.std.specs.Prelude.{ℕ, ◌≤◌, ◌≡◌, List, ◌↔◌}
use Rattle.streaming.specs.Answer.{endpoint_of}
use Rattle.configuration_rules.specs.Descriptors.{number_at}
use Rattle.alternate_settings.specs.Inner.{settings_of}
use Rattle.alternate_settings.specs.Holding.{Holds, Fewest}
use Rattle.alternate_settings.specs.declared.Setting.{Setting}
use Rattle.picking.specs.declared.Picked.{Picked}
use Rattle.configuration_words.specs.Block.{BlockIs}
use Rattle.configuration_words.specs.Broken.{ListedAt, Sound, FirstBroken}

-- the first listed interface of number i stands at o
pub record FirstOf (s : List ℕ) (i o : ℕ) : Type 0 where
  pub listed : ListedAt s o
  pub number : number_at s o ≡ i
  pub earliest : (q : ℕ) → ListedAt s q → number_at s q ≡ i → o ≤ q

-- its settings, with their bytes at the endpoint of its block's header
pub record SettingsAre (s : List ℕ) (i : ℕ) (l : List Setting) : Type 0 where
  pub place : ℕ
  pub first : FirstOf s i place
  pub bytes : List ℕ
  pub block : BlockIs s place bytes
  pub same : l ≡ settings_of s i (endpoint_of bytes)

-- one of them holds the payload size
pub record HoldsIn (s : List ℕ) (i p : ℕ) (x : Setting) : Type 0 where
  pub settings : List Setting
  pub are : SettingsAre s i settings
  pub holds : Holds settings p x

-- and is picked: it has the fewest bytes of those that do, and the lowest number on a tie
pub record PickedIn (s : List ℕ) (i p : ℕ) (x : Setting) : Type 0 where
  pub settings : List Setting
  pub are : SettingsAre s i settings
  pub fewest : Fewest settings p x

-- WHAT IS ANSWERED
pub record Picks (s : List ℕ) (i p : ℕ) (r : Picked) : Type 0 where
  -- the configuration's own refusals
  pub own-refusal : (k o : ℕ) → (k ≡ 74 → ⊥) → (r.verdict ≡ refuse k o) ↔ FirstBroken s k o
  -- 74: nothing holds the payload size
  pub no-setting : (r.verdict ≡ refuse 74 0) ↔ (Sound s × ((y : Setting) → HoldsIn s i p y → ⊥))
  -- a setting: it holds it with the fewest bytes, and the lowest number on a tie
  pub setting : (y : Setting) → ((r.verdict ≡ accept) × (r.setting ≡ y)) ↔ (Sound s × PickedIn s i p y)
