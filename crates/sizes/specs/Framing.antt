-- Document 02, Two: the framing byte. Only its D1 is looked at: set, frames end by EOF; clear, EOF is ignored and frames are marked by FID alone.
use Rattle.std.specs.Prelude.{◌/◌, ◌%◌, ◌^◌, Bool, eqb}
use Rattle.sizes.specs.declared.Opening.{Opening}

unfoldable pub by_eof : Opening → Bool
by_eof o = eqb (o.framing / 2 ^ 1 % 2) 1
