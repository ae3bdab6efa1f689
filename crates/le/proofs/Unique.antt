-- Each promise leaves one answer.
use Prim.Native.Nat.{ℕ, ◌+◌, ◌*◌, ◌<◌}
use mathlib.Core.Path.{◌≡◌, sym, ◌∙◌}
use mathlib.Core.List.{List}
use lib.ListN.{get_or}
use Rattle.le.specs.Le.{le16_at, le32_at}

pub wide-unique : (x r t : ℕ) → (r ≡ x) × (r < 256) → (t ≡ x) × (t < 256) → r ≡ t
wide-unique x r t e f = e.0 ∙ sym f.0

pub join16-unique : (a b r t : ℕ) → r ≡ a + b * 256 → t ≡ a + b * 256 → r ≡ t
join16-unique a b r t e f = e ∙ sym f

pub join32-unique : (a b r t : ℕ) → r ≡ a + b * 65536 → t ≡ a + b * 65536 → r ≡ t
join32-unique a b r t e f = e ∙ sym f

pub le16-unique : (s : List ℕ) (at r t : ℕ) → r ≡ le16_at s at → t ≡ le16_at s at → r ≡ t
le16-unique s at r t e f = e ∙ sym f

pub le32-unique : (s : List ℕ) (at r t : ℕ) → r ≡ le32_at s at → t ≡ le32_at s at → r ≡ t
le32-unique s at r t e f = e ∙ sym f

pub byte-unique : (s : List ℕ) (at r t : ℕ) → r ≡ get_or s at 0 → t ≡ get_or s at 0 → r ≡ t
byte-unique s at r t e f = e ∙ sym f
