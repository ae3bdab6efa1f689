use Rattle.interfaces.proofs.Searching.{steps-in, next-in}
use Rattle.alternate_settings.proofs.Going.{no_bytes, some_bytes}
use Rattle.alternate_settings.proofs.bytes_at.Goals as goal

pub next-e-requires : goal.next-e-requires
next-e-requires c = search steps-in

pub byte_of-requires : goal.byte_of-requires
byte_of-requires c = search (next-in, steps-in)

pub returns-then-byte_of-ne-ENDPOINT : goal.returns-then-byte_of-ne-ENDPOINT
returns-then-byte_of-ne-ENDPOINT c = search no_bytes

pub byte_of-low-requires : goal.byte_of-low-requires
byte_of-low-requires c = search (next-in, steps-in)

pub byte_of-high-requires : goal.byte_of-high-requires
byte_of-high-requires c = search (next-in, steps-in)

pub returns : goal.returns
returns c = search some_bytes
