-- Document 02, Nine: the header that a sender writes. D7 always, D0 the FID, D1 on the frame's last transfer, D2 with a stamp; D3 to D6 clear. The stamp is in every transfer.
use Rattle.session_rules.specs.Options.{Stamp}
use Rattle.std.specs.Prelude.{ℕ, ◌+◌, ◌/◌, ◌%◌, ◌^◌, ◌<◌, Bool, true, false, List, [], ◌∷◌, None, Some}
use Rattle.session_rules.specs.declared.Header.{Header}

abbrev pub bit : Bool → ℕ → ℕ
bit true n = n
bit false n = 0

-- the header's bytes: its length, the flags, the stamp
abbrev pub size_of : Stamp → ℕ
size_of None = 2
size_of (Some x) = 6

abbrev pub written : Bool → Bool → Stamp → List ℕ
written fid eof None = 2 ∷ (128 + bit fid 1 + bit eof 2) ∷ []
written fid eof (Some x) = 6 ∷ (132 + bit fid 1 + bit eof 2) ∷ x % 256 ∷ x / 256 % 256 ∷ x / 65536 % 256 ∷ x / 16777216 % 256 ∷ []

-- and what it says
abbrev pub meant : Bool → Bool → Stamp → Header
meant fid eof s = record { len = size_of s; fid = fid; eof = eof; still = false; error = false; stamp = s; layer = None }

-- a stamp is a number of 32 bits
abbrev pub Stamped : Stamp → Type 0
Stamped None = Unit {0}
Stamped (Some x) = x < 2 ^ 32
