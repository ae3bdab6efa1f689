-- WHAT IS PRINTED OF ONE DESCRIPTOR: `s` is the configuration, the descriptor starts at `o`, and `part` says in which block it stands. In a template `%`, a form and two digits
-- stand for the field at that offset: d, w and l are numbers of one, two and four bytes, h two hexadecimal digits, c a letter, f frames per second, p bytes per microframe.
use Rattle.std.specs.Prelude.{ℕ, ◌%◌, Bool, true, false, List, [], ◌++◌, eqb}
use Rattle.le.specs.Le.{byte}
use Rattle.rules.specs.IfElse.{if_else}
use Rattle.text.specs.Text.{bytes}
use Rattle.templates.specs.Values.{word_at}
use Rattle.templates.specs.Template.{rendered, listed}
use Rattle.camera_names.specs.Names.{controls_text, camera_names, processing_names, terminal_text as type_name}
use Rattle.configuration_rules.specs.Descriptors.{is_sought}
use Rattle.configuration_rules.specs.declared.Sought.TheVariants.{Control as SoughtControl}
use Rattle.camera_lines.specs.Parts.{is_streaming}
use Rattle.camera_lines.specs.declared.Part.{Part}
use Rattle.camera_lines.specs.declared.Part.TheVariants.{Other, Control, Newest, Streaming, Setting}

-- as many numbers as the byte at `count` says, from `first` on, and the line's end
abbrev pub sources_text : List ℕ → ℕ → ℕ → ℕ → List ℕ
sources_text s o count first = listed s o 1 (bytes " %d00") (byte s o count) first ++ bytes "\n"

-- ---- the control block
abbrev pub header_text : List ℕ → ℕ → List ℕ
header_text s o = rendered s o 0 (bytes "  USB Video Class %d04.%h03, clock %l07 Hz, streaming interfaces:") ++ sources_text s o 11 12

-- the terminal type in words
abbrev pub type_line : List ℕ → ℕ → List ℕ
type_line s o = type_name (word_at s o 4)

abbrev pub terminal_text : List ℕ → ℕ → List ℕ
terminal_text s o = rendered s o 0 (bytes "  Entity %d03: input terminal, type 0x%h05%h04, ") ++ type_line s o

-- a camera terminal has controls
abbrev pub camera_text : List ℕ → ℕ → List ℕ
camera_text s o = terminal_text s o ++ (rendered s o 0 (bytes "    Controls (%d14 bytes):\n") ++ controls_text s o 15 (byte s o 14) camera_names 24 0)

unfoldable pub input_by : List ℕ → ℕ → ℕ → List ℕ
input_by s o number = if_else (eqb number 0x0201) (camera_text s o) (terminal_text s o)

abbrev pub input_text : List ℕ → ℕ → List ℕ
input_text s o = input_by s o (word_at s o 4)

abbrev pub output_text : List ℕ → ℕ → List ℕ
output_text s o = rendered s o 0 (bytes "  Entity %d03: output terminal, fed by %d07, type 0x%h05%h04, ") ++ type_line s o

abbrev pub selector_text : List ℕ → ℕ → List ℕ
selector_text s o = rendered s o 0 (bytes "  Entity %d03: selector unit, fed by") ++ sources_text s o 4 5

abbrev pub processing_text : List ℕ → ℕ → List ℕ
processing_text s o =
    rendered s o 0 (bytes "  Entity %d03: processing unit, fed by %d04\n    Controls (%d07 bytes):\n") ++ controls_text s o 8 (byte s o 7) processing_names 24 0

abbrev pub extension_text : List ℕ → ℕ → List ℕ
extension_text s o =
    rendered s o 0 (bytes "  Entity %d03: extension unit {%h07%h06%h05%h04-%h09%h08-%h11%h10-%h12%h13-%h14%h15%h16%h17%h18%h19}, %d20 controls, fed by") ++ sources_text s o 21 22

-- an encoding unit: only 1.5 has them
abbrev pub encoding_text : List ℕ → ℕ → Bool → List ℕ
encoding_text s o true = rendered s o 0 (bytes "  Entity %d03: encoding unit, fed by %d04\n")
encoding_text s o false = []

unfoldable pub control_text : List ℕ → ℕ → ℕ → Bool → List ℕ
control_text s o sub newest =
    if_else (eqb sub 1) (header_text s o)
    (if_else (eqb sub 2) (input_text s o)
    (if_else (eqb sub 3) (output_text s o)
    (if_else (eqb sub 4) (selector_text s o)
    (if_else (eqb sub 5) (processing_text s o) (if_else (eqb sub 6) (extension_text s o) (if_else (eqb sub 7) (encoding_text s o newest) []))))))

-- ---- the streaming block
-- listed intervals; or a shortest, a longest and a step
unfoldable pub intervals_by : List ℕ → ℕ → ℕ → List ℕ
intervals_by s o n =
    if_else (eqb n 0) (rendered s o 0 (bytes "      Interval: Stepwise %l26 - %l30 x 100 ns with step %l34 (%f30-%f26 fps)\n"))
    (listed s o 4 (bytes "      Interval: Discrete %l00 x 100 ns (%f00 fps)\n") n 26)

abbrev pub intervals_text : List ℕ → ℕ → ℕ → List ℕ
intervals_text s o count = intervals_by s o (byte s o count)

abbrev pub sized_text : List ℕ → ℕ → List ℕ
sized_text s o = rendered s o 0 (bytes "    Size: Discrete %w05x%w07, number %d03, buffer %l17 bytes, default %f21 fps\n") ++ intervals_text s o 25

abbrev pub sizeless_text : List ℕ → ℕ → List ℕ
sizeless_text s o = rendered s o 0 (bytes "    Size: Discrete %w05x%w07, number %d03, default %f17 fps\n") ++ intervals_text s o 21

abbrev pub stream_header : List ℕ
stream_header = bytes "  %d03 formats, from entity %d08, on endpoint 0x%h06\n"

abbrev pub uncompressed : List ℕ
uncompressed =
    bytes "  Format %d03: '%c05%c06%c07%c08' {%h08%h07%h06%h05-%h10%h09-%h12%h11-%h13%h14-%h15%h16%h17%h18%h19%h20}, uncompressed, %d21 bits per pixel, %d04 sizes, default %d22\n"

abbrev pub motion_jpeg : List ℕ
motion_jpeg = bytes "  Format %d03: 'MJPG' (Motion-JPEG), compressed, %d04 sizes, default %d06\n"

abbrev pub frame_based : List ℕ
frame_based =
    bytes "  Format %d03: '%c05%c06%c07%c08' {%h08%h07%h06%h05-%h10%h09-%h12%h11-%h13%h14-%h15%h16%h17%h18%h19%h20}, frame based, %d21 bits per pixel, %d04 sizes, default %d22\n"

unfoldable pub streaming_text : List ℕ → ℕ → ℕ → List ℕ
streaming_text s o sub =
    if_else (eqb sub 1) (rendered s o 0 stream_header)
    (if_else (eqb sub 4) (rendered s o 0 uncompressed)
    (if_else (eqb sub 5) (sized_text s o)
    (if_else (eqb sub 6) (rendered s o 0 motion_jpeg)
    (if_else (eqb sub 7) (sized_text s o) (if_else (eqb sub 16) (rendered s o 0 frame_based) (if_else (eqb sub 17) (sizeless_text s o) []))))))

-- ---- the others
-- an endpoint of a streaming interface: transfer type 2 is bulk
unfoldable pub endpoint_by : List ℕ → ℕ → ℕ → List ℕ
endpoint_by s o attributes =
    if_else (eqb (attributes % 4) 2) (rendered s o 0 (bytes "  Endpoint 0x%h02: bulk, %w04 bytes per packet\n")) (rendered s o 0 (bytes "  Endpoint 0x%h02: %p04 bytes per microframe\n"))

abbrev pub endpoint_text : List ℕ → ℕ → Part → List ℕ
endpoint_text s o Other = []
endpoint_text s o Control = []
endpoint_text s o Newest = []
endpoint_text s o Streaming = endpoint_by s o (byte s o 3)
endpoint_text s o Setting = endpoint_by s o (byte s o 3)

unfoldable pub interface_text : List ℕ → ℕ → List ℕ
interface_text s o =
    if_else (is_sought SoughtControl s o) (rendered s o 0 (bytes "VideoControl interface %d02\n"))
    (if_else (is_streaming s o) (rendered s o 0 (bytes "VideoStreaming interface %d02, alternate setting %d03\n")) [])

abbrev pub class_text : List ℕ → ℕ → Part → List ℕ
class_text s o Other = []
class_text s o Control = control_text s o (byte s o 2) false
class_text s o Newest = control_text s o (byte s o 2) true
class_text s o Streaming = streaming_text s o (byte s o 2)
class_text s o Setting = []

unfoldable pub type_text : List ℕ → ℕ → Part → ℕ → List ℕ
type_text s o part kind =
    if_else (eqb kind 0x24) (class_text s o part)
    (if_else (eqb kind 5) (endpoint_text s o part)
    (if_else (eqb kind 4) (interface_text s o) (if_else (eqb kind 2) (rendered s o 0 (bytes "Configuration %d05: %d04 interfaces, %w02 bytes\n")) [])))

abbrev pub text_at : List ℕ → ℕ → Part → List ℕ
text_at s o part = type_text s o part (byte s o 1)
