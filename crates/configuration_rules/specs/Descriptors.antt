-- Document 02, One: one descriptor of a configuration. `s` is the configuration, and a descriptor starts at `o`.
use Rattle.std.specs.Prelude.{ℕ, ◌+◌, ◌*◌, ◌/◌, ◌%◌, List, Bool, false, not, ◌&&◌, ◌||◌, length, ltb, eqb}
use Rattle.le.specs.Le.{byte, le16_at}
use Rattle.rules.specs.IfElse.{if_else}
use Rattle.blocks.specs.Blocks.{len_at, descriptor_type}
use Rattle.configuration_rules.specs.declared.Sought.{Sought}
use Rattle.configuration_rules.specs.declared.Sought.TheVariants.{Broken, Control, Listed, Setting, Outside, Endpoint}

-- the types of the descriptors that are read (0x24, class-specific, is `descriptor_type`)
abbrev pub configuration_type : ℕ
configuration_type = 2

abbrev pub interface_type : ℕ
interface_type = 4

abbrev pub endpoint_type : ℕ
endpoint_type = 5

-- the class of a video interface, and its subclasses
abbrev pub video_class : ℕ
video_class = 0x0E

abbrev pub control_subclass : ℕ
control_subclass = 1

abbrev pub streaming_subclass : ℕ
streaming_subclass = 2

-- bDescriptorType; of an interface bInterfaceNumber, bAlternateSetting, bInterfaceClass, bInterfaceSubClass
abbrev pub type_at : List ℕ → ℕ → ℕ
type_at s o = byte s o 1

abbrev pub number_at : List ℕ → ℕ → ℕ
number_at s o = byte s o 2

abbrev pub setting_at : List ℕ → ℕ → ℕ
setting_at s o = byte s o 3

abbrev pub class_at : List ℕ → ℕ → ℕ
class_at s o = byte s o 5

abbrev pub subclass_at : List ℕ → ℕ → ℕ
subclass_at s o = byte s o 6

-- of an endpoint bEndpointAddress, wMaxPacketSize
abbrev pub address_at : List ℕ → ℕ → ℕ
address_at s o = byte s o 2

abbrev pub packet_at : List ℕ → ℕ → ℕ
packet_at s o = le16_at s (o + 4)

-- the fewest bytes of a descriptor of this type
unfoldable pub least_of : ℕ → ℕ
least_of t = if_else (eqb t configuration_type) 9 (if_else (eqb t interface_type) 9 (if_else (eqb t endpoint_type) 7 2))

-- 70: a descriptor under 2 bytes, past the end or too short for its kind
unfoldable pub broken_at : List ℕ → ℕ → Bool
broken_at s o = ltb (len_at s o) 2 || (ltb (length s) (o + len_at s o) || ltb (len_at s o) (least_of (type_at s o)))

-- where the next descriptor starts; behind one that breaks 70 nothing is read
unfoldable pub after_at : List ℕ → ℕ → ℕ
after_at s o = if_else (broken_at s o) (length s) (o + len_at s o)

-- the subclass of a video interface's descriptor, 0 of any other
unfoldable pub subclass_of : List ℕ → ℕ → ℕ
subclass_of s o = if_else (eqb (type_at s o) interface_type) (if_else (eqb (class_at s o) video_class) (subclass_at s o) 0) 0

-- a video interface's descriptor of this subclass, whose byte k is x
unfoldable pub is_video : List ℕ → ℕ → ℕ → ℕ → ℕ → Bool
is_video s o subclass k x = if_else (eqb (subclass_of s o) subclass) (eqb (byte s o k) x) false

-- the endpoint of this address, or an interface descriptor
unfoldable pub is_endpoint : List ℕ → ℕ → ℕ → Bool
is_endpoint s o address = eqb (type_at s o) interface_type || (eqb (type_at s o) endpoint_type && eqb (address_at s o) address)

-- what a search looks for
unfoldable pub is_sought : Sought → List ℕ → ℕ → Bool
is_sought Broken s o = broken_at s o
is_sought Control s o = is_video s o control_subclass 3 0
is_sought Listed s o = is_video s o streaming_subclass 3 0
is_sought (Setting number) s o = is_video s o streaming_subclass 2 number
is_sought Outside s o = not (eqb (type_at s o) descriptor_type)
is_sought (Endpoint address) s o = is_endpoint s o address

-- bits 10 to 0 of wMaxPacketSize times one plus bits 12 and 11
unfoldable pub packet_bytes : ℕ → ℕ
packet_bytes w = (w % 2048) * (1 + w / 2048 % 4)
