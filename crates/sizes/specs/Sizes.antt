-- 45 and 46: the sizes that no session can be opened with.
use Rattle.std.specs.Prelude.{ℕ, ◌≤◌, Bool, ◌||◌, eqb, ltb}
use Rattle.sizes.specs.declared.Opening.{Opening}

abbrev pub frame_most : ℕ
frame_most = 16_777_216

abbrev pub payload_least : ℕ
payload_least = 2

abbrev pub payload_most : ℕ
payload_most = 65_536

-- 45: frame size 0 or over 16,777,216
unfoldable pub frame_size_broken : ℕ → Bool
frame_size_broken n = eqb n 0 || ltb frame_most n

-- 46: payload size under 2 or over 65,536
unfoldable pub payload_size_broken : ℕ → Bool
payload_size_broken n = ltb n payload_least || ltb payload_most n

-- either, of what a session is opened with
unfoldable pub sizes_broken : Opening → Bool
sizes_broken o = frame_size_broken o.frame || payload_size_broken o.payload

-- what a size within its limits is
pub record Between (least n most : ℕ) : Type 0 where
  pub low : least ≤ n
  pub high : n ≤ most
