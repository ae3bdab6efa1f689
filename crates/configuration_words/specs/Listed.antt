-- What an accepted configuration lists, in document 02's words. `s` is the configuration.
use Rattle.std.specs.Prelude.{ℕ, ◌≤◌, ◌<◌, ◌≡◌, List, length, take, drop, get_or}
use Rattle.streaming.specs.Answer.{endpoint_of}
use Rattle.configuration_rules.specs.Descriptors.{interface_type, type_at, number_at, setting_at, packet_at, packet_bytes}
use Rattle.configuration_rules.specs.Words.{StreamingFirst, SettingOf, EndpointOf}
use Rattle.interfaces.specs.Limits.{interfaces_most, settings_most, no_stream}
use Rattle.interfaces.specs.declared.Stream.{Stream}
use Rattle.alternate_settings.specs.Holding.{no_setting}
use Rattle.alternate_settings.specs.declared.Setting.{Setting}
use Rattle.configuration_layout.specs.Words.{Starts, Lists}
use Rattle.configuration_layout.specs.Broken.{OneControl}
use Rattle.configuration.specs.declared.Configuration.{Configuration}
use Rattle.configuration_words.specs.Block.{BlockLies}

-- a stream is what the streaming descriptor at o says, and its block
pub record StreamStands (s : List ℕ) (o : ℕ) (x : Stream) : Type 0 where
  pub number : x.interface ≡ number_at s o
  pub lies : BlockLies s o x.offset x.length
  pub endpoint : x.endpoint ≡ endpoint_of (take x.length (drop x.offset s))

-- the one control interface, and the streaming interfaces: those of setting 0 in order of appearance, none left out, unused places zero
pub record Lists-all (s : List ℕ) (r : Configuration) : Type 0 where
  pub control : ℕ
  pub one : OneControl s control
  pub number : r.control.interface ≡ number_at s control
  pub lies : BlockLies s control r.control.offset r.control.length
  pub places : List ℕ
  pub streams : Lists s (StreamingFirst s) places
  pub count : r.count ≡ length places
  pub few : length places ≤ interfaces_most
  pub each : (i : ℕ) → i < length places → StreamStands s (get_or places i 0) (get_or r.streams i no_stream)
  pub unused : (i : ℕ) → length places ≤ i → get_or r.streams i no_stream ≡ no_stream

-- ---- settings
-- a descriptor between the interface descriptor at o and the next one
pub record Between (s : List ℕ) (o e : ℕ) : Type 0 where
  pub starts : Starts s e
  pub behind : o < e
  pub before : (p : ℕ) → Starts s p → o < p → p ≤ e → type_at s p ≡ interface_type → ⊥

-- the bytes of the setting at o: from the first endpoint of this address between it and the next interface descriptor; none: 0
pub data BytesAre (s : List ℕ) (o address : ℕ) : ℕ → Type 0 where
  by-endpoint : (e : ℕ) → Between s o e → EndpointOf s address e → ((p : ℕ) → Between s o p → EndpointOf s address p → e ≤ p) → BytesAre s o address (packet_bytes (packet_at s e))
  no-endpoint : ((p : ℕ) → Between s o p → EndpointOf s address p → ⊥) → BytesAre s o address 0

-- a setting is what the streaming descriptor at o says
pub record SettingStands (s : List ℕ) (address o : ℕ) (x : Setting) : Type 0 where
  pub number : x.number ≡ setting_at s o
  pub bytes : BytesAre s o address x.bytes

-- the settings of interface n: its streaming descriptors in order of appearance, none left out, 32 at the most
pub record Settings-all (s : List ℕ) (n address : ℕ) (l : List Setting) : Type 0 where
  pub places : List ℕ
  pub descriptors : Lists s (SettingOf s n) places
  pub count : length l ≡ length places
  pub few : length places ≤ settings_most
  pub each : (i : ℕ) → i < length places → SettingStands s address (get_or places i 0) (get_or l i no_setting)
