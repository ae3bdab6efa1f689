-- Document 01, "Control block", with document 02, request Four: the table of descriptors, a line for each subtype. `s` is the block, and the descriptor
-- starts at `o`.
use Rattle.std.specs.Prelude.{ℕ, zero, suc, ◌+◌, ◌≤◌, ◌≡◌, List, Bool, true, false, ◌&&◌, length, get_or, leb, eqb}
use Rattle.le.specs.Le.{byte, le16_at}
use Rattle.rules.specs.IfElse.{if_else}
use Rattle.entities.specs.Revisions.{says_of}
use Rattle.entities.specs.Table.{encoding_unit}
use Rattle.entities.specs.declared.Revision.{Revision}
use Rattle.entities.specs.declared.Revision.TheVariants.{R10, R11, R15}
pub use Rattle.blocks.specs.Blocks.{len_at}

-- ---- the revision: bcdUVC of the header, which stands first. What is no revision is refused by 8, and read as 1.5 until then
unfoldable pub revision_by : ℕ → Revision
revision_by x = if_else (eqb x 0x0100) R10 (if_else (eqb x 0x0110) R11 R15)

abbrev pub revision_of : List ℕ → Revision
revision_of s = revision_by (le16_at s 3)

-- what a subtype number says, with one case for everything unknown
pub data Kind : Type 0 where
  header input output selector processing extension encoding unknown : Kind

unfoldable pub kind_of : ℕ → Kind
kind_of zero = unknown
kind_of (suc zero) = header
kind_of (suc (suc zero)) = input
kind_of (suc (suc (suc zero))) = output
kind_of (suc (suc (suc (suc zero)))) = selector
kind_of (suc (suc (suc (suc (suc zero))))) = processing
kind_of (suc (suc (suc (suc (suc (suc zero)))))) = extension
kind_of (suc (suc (suc (suc (suc (suc (suc zero))))))) = encoding
kind_of (suc (suc (suc (suc (suc (suc (suc (suc n)))))))) = unknown

-- the subtype as a revision reads it: one without encoding units does not know 7, as none knows 0
unfoldable pub known_as : Revision → ℕ → ℕ
known_as v x = if_else (eqb x encoding_unit) (if_else (says_of v).encoding encoding_unit 0) x

-- the kind by the subtype, as a revision reads it; and as the block's own does
abbrev pub kind_in : Revision → List ℕ → ℕ → Kind
kind_in v s o = kind_of (known_as v (byte s o 2))

abbrev pub kind_at : List ℕ → ℕ → Kind
kind_at s o = kind_in (revision_of s) s o

-- the terminal type of a camera
abbrev pub camera : ℕ
camera = 0x0201

-- ---- length and control size

-- the length is `size`, and the control size, at `k`, is 3
unfoldable pub fixed_at : List ℕ → ℕ → ℕ → ℕ → Bool
fixed_at s o size k = eqb (len_at s o) size && eqb (byte s o k) 3

-- the length is `base` and as many more as the byte at `k` says
unfoldable pub counted_at : List ℕ → ℕ → ℕ → ℕ → Bool
counted_at s o base k = eqb (len_at s o) (base + byte s o k)

-- the length is `base` + n, n the control size, at `k`: as many as the revision allows
unfoldable pub sized_at : Revision → List ℕ → ℕ → ℕ → ℕ → Bool
sized_at v s o base k = counted_at s o base k && (leb (says_of v).least (byte s o k) && leb (byte s o k) (says_of v).most)

-- at least 8; for a camera 15 + n, n at 14
unfoldable pub input_at : Revision → List ℕ → ℕ → Bool
input_at v s o = leb 8 (len_at s o) && if_else (eqb (le16_at s (o + 4)) camera) (sized_at v s o (says_of v).camera 14) true

-- 24+p+n: p at 21, and n at 22+p
unfoldable pub extension_at : List ℕ → ℕ → Bool
extension_at s o = eqb (len_at s o) (24 + byte s o 21 + get_or s (o + 22 + byte s o 21) 0)

-- by the revision
unfoldable pub shape : Revision → Kind → List ℕ → ℕ → Bool
shape v header s o = counted_at s o 12 11
shape v input s o = input_at v s o
shape v output s o = leb 9 (len_at s o)
shape v selector s o = counted_at s o 6 4
shape v processing s o = sized_at v s o (says_of v).unit 7
shape v extension s o = extension_at s o
shape v encoding s o = fixed_at s o 13 6
shape v unknown s o = true

-- ---- what stands in the entity table: the kind, and the terminal type or 0
unfoldable pub is_entity : Kind → Bool
is_entity header = false
is_entity input = true
is_entity output = true
is_entity selector = true
is_entity processing = true
is_entity extension = true
is_entity encoding = true
is_entity unknown = false

unfoldable pub terminal_of : Kind → List ℕ → ℕ → ℕ
terminal_of header s o = 0
terminal_of input s o = le16_at s (o + 4)
terminal_of output s o = le16_at s (o + 4)
terminal_of selector s o = 0
terminal_of processing s o = 0
terminal_of extension s o = 0
terminal_of encoding s o = 0
terminal_of unknown s o = 0

-- ---- sources: how many, and where the first of them stands
unfoldable pub source_count : Kind → List ℕ → ℕ → ℕ
source_count header s o = 0
source_count input s o = 0
source_count output s o = 1
source_count selector s o = byte s o 4
source_count processing s o = 1
source_count extension s o = byte s o 21
source_count encoding s o = 1
source_count unknown s o = 0

unfoldable pub source_place : Kind → ℕ
source_place header = 0
source_place input = 0
source_place output = 7
source_place selector = 5
source_place processing = 4
source_place extension = 22
source_place encoding = 4
source_place unknown = 0

-- ---- controls: a camera terminal's control size stands at 14, a processing unit's at 7, by the kind and the terminal type, and its controls straight behind
-- it. Nothing else has any.
pub data ControlsAt : Kind → ℕ → ℕ → Type 0 where
  camera-terminal : (t : ℕ) → t ≡ camera → ControlsAt input t 14
  processing-unit : (t : ℕ) → ControlsAt processing t 7

-- ---- a descriptor that lies in the block and has its kind's length and control size, by the block's revision
pub record Shaped (k : Kind) (s : List ℕ) (o : ℕ) : Type 0 where
  pub long : 3 ≤ len_at s o
  pub inside : o + len_at s o ≤ length s
  pub right : shape (revision_of s) k s o ≡ true
