-- Where a descriptor stands in a configuration: `s` is the configuration, and a descriptor starts at `o`.
use Rattle.std.specs.Prelude.{ℕ, Bool, List, eqb}
use Rattle.le.specs.Le.{byte}
use Rattle.rules.specs.IfElse.{if_else}
use Rattle.templates.specs.Values.{word_at}
use Rattle.configuration_rules.specs.Descriptors.{is_sought}
use Rattle.configuration_rules.specs.declared.Sought.TheVariants.{Control as SoughtControl, Listed, Setting as SoughtSetting}
use Rattle.camera_lines.specs.declared.Part.{Part}
use Rattle.camera_lines.specs.declared.Part.TheVariants.{Other, Control, Newest, Streaming, Setting}

-- enough for any descriptor's text
abbrev pub room : ℕ
room = 102400

-- a video interface of the streaming subclass, whatever its setting
unfoldable pub is_streaming : List ℕ → ℕ → Bool
is_streaming s o = is_sought (SoughtSetting (byte s o 2)) s o

-- behind an interface descriptor: a block begins behind setting 0 of a video interface
unfoldable pub interface_part : List ℕ → ℕ → Part
interface_part s o =
    if_else (is_sought SoughtControl s o) Control (if_else (is_sought Listed s o) Streaming (if_else (is_streaming s o) Setting Other))

-- behind a control header: whether it is of revision 1.5
unfoldable pub header_part : ℕ → ℕ → Part
header_part sub revision = if_else (eqb sub 1) (if_else (eqb revision 0x0150) Newest Control) Control

-- behind a class-specific descriptor: the same block
abbrev pub class_part : List ℕ → ℕ → Part → Part
class_part s o Other = Other
class_part s o Control = header_part (byte s o 2) (word_at s o 3)
class_part s o Newest = Newest
class_part s o Streaming = Streaming
class_part s o Setting = Setting

-- behind any other descriptor: it ends a block, but not a streaming interface's setting
abbrev pub other_part : Part → Part
other_part Other = Other
other_part Control = Other
other_part Newest = Other
other_part Streaming = Setting
other_part Setting = Setting

unfoldable pub part_by : List ℕ → ℕ → Part → ℕ → Part
part_by s o part kind = if_else (eqb kind 0x24) (class_part s o part) (if_else (eqb kind 4) (interface_part s o) (other_part part))

abbrev pub part_after : List ℕ → ℕ → Part → Part
part_after s o part = part_by s o part (byte s o 1)
