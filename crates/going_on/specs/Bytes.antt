-- The same of the old kind of header, by few tests on the transfer's bytes. Nothing here needs to be believed: proofs/Bytes.antt ties it to `goes_on`.
use Rattle.std.specs.Prelude.{ℕ, ◌+◌, ◌-◌, ◌*◌, Bool, true, false, not, ◌&&◌, List, length, leb, ltb, eqb}
use Rattle.std.specs.Int.Bits.{bit_and}
use Rattle.sizes.specs.declared.Opening.{Opening}
use Rattle.sizes.specs.declared.HeaderKind.{HeaderKind}
use Rattle.sizes.specs.declared.HeaderKind.TheVariants.{Old, Vp8}
use Rattle.session_rules.specs.declared.Run.{Run}
use Rattle.session_rules.specs.Layouts.{header_layout}
use Rattle.session_rules.specs.Transfer.{length_at, need_of, stamp_of}
use Rattle.session_rules.specs.OldKind.{old_flags}
use Rattle.session_rules.specs.Turns.{clash_of}
use Rattle.going_on.specs.GoingOn.{is_sound}

abbrev pub is_old : HeaderKind → Bool
is_old Old = true
is_old Vp8 = false

abbrev pub one_of : Bool → ℕ
one_of true = 1
one_of false = 0

-- the bits of the flag byte that are compared: D0 FID, D1 EOF, D5 still, D6 error, D7 end of header
abbrev pub compared : ℕ
compared = 227

-- what it has to have there: the frame's FID and still bit, end of header, and neither EOF nor error
abbrev pub marks_of : Bool → Bool → ℕ
marks_of fid still = 128 + one_of fid + one_of still * 32

-- a header that is readable and has these marks
unfoldable pub is_marked : Bool → Bool → ℕ → List ℕ → Bool
is_marked fid still payload t =
    leb 2 (length t)
    && (leb (length t) payload
    && (eqb (bit_and (old_flags t) compared) (marks_of fid still)
    && (leb (length_at t) (length t) && not (ltb (length_at t) (need_of (header_layout Old) (old_flags t))))))

-- the bytes after the header
abbrev pub data_of : List ℕ → ℕ
data_of t = length t - length_at t

-- in a frame without fault, fill is its bytes (50)
unfoldable pub bytes_go_on : Opening → Run → List ℕ → Bool
bytes_go_on o r t =
    is_old o.kind
    && (is_sound r.fault
    && (is_marked r.fid r.still o.payload t
    && (leb (r.fill + data_of t) o.frame && not (clash_of r.stamp (stamp_of (header_layout Old) t (old_flags t))))))
