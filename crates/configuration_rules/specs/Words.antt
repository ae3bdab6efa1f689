-- The same in words, of the descriptor at `o` of the configuration `s`.
use Rattle.std.specs.Prelude.{ℕ, ◌+◌, ◌≤◌, ◌≡◌, List, length}
use Rattle.blocks.specs.Blocks.{len_at, descriptor_type}
use Rattle.configuration_rules.specs.Descriptors.{interface_type, endpoint_type, video_class, control_subclass, streaming_subclass, type_at, number_at, setting_at, class_at, subclass_at, address_at, least_of}

-- it keeps 70: at least 2 bytes, not past the end, and long enough for its kind
pub record Kept (s : List ℕ) (o : ℕ) : Type 0 where
  pub two : 2 ≤ len_at s o
  pub inside : o + len_at s o ≤ length s
  pub long : least_of (type_at s o) ≤ len_at s o

-- an interface descriptor of class 0x0E and of this subclass
pub record Video (s : List ℕ) (subclass o : ℕ) : Type 0 where
  pub interface : type_at s o ≡ interface_type
  pub class : class_at s o ≡ video_class
  pub sub : subclass_at s o ≡ subclass

-- of setting 0: the control interface, a streaming interface
pub record ControlFirst (s : List ℕ) (o : ℕ) : Type 0 where
  pub video : Video s control_subclass o
  pub first : setting_at s o ≡ 0

pub record StreamingFirst (s : List ℕ) (o : ℕ) : Type 0 where
  pub video : Video s streaming_subclass o
  pub first : setting_at s o ≡ 0

-- a setting of the streaming interface of number n, whichever it is
pub record SettingOf (s : List ℕ) (n o : ℕ) : Type 0 where
  pub video : Video s streaming_subclass o
  pub number : number_at s o ≡ n

-- a class-specific descriptor
abbrev pub ClassSpecific : List ℕ → ℕ → Type 0
ClassSpecific s o = type_at s o ≡ descriptor_type

-- the endpoint of this address
pub record EndpointOf (s : List ℕ) (a o : ℕ) : Type 0 where
  pub endpoint : type_at s o ≡ endpoint_type
  pub address : address_at s o ≡ a
