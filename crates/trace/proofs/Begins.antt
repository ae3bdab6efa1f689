-- A trace begins with a fresh session, unless its sizes are such that none can be opened: then by 45, or by 46.
use Rattle.std.specs.Prelude.{Ok}
use mathlib.Core.Path.{◌≡◌, refl}
use mathlib.Core.Bool.{Bool, true, false}
use mathlib.Core.List.{[], ◌∷◌}
use native.Mathlib.Omega.{arith}
use lib.Dec.{ltb}
use borrow.Author.Tests.{le-ltb}
use Rattle.rules.proofs.Rows.{or-first, or-second}
use Rattle.sizes.specs.declared.Opening.{Opening}
use Rattle.sizes.specs.Framing.{by_eof}
use Rattle.sizes.specs.Sizes.{frame_size_broken, payload_size_broken, sizes_broken}
use Rattle.rules.specs.Numbered.{row, first_row}
use Rattle.session_rules.specs.Refusals.{opening_rows}
use Rattle.session_rules.specs.Session.{open_by, open_of}
use Rattle.trace.specs.Trace.{ledger_sizes, replay_sizes, new_trace, begin_of, start_by}

-- the room is the frame size: 47 is never met
enough : (o : Opening) → ltb o.frame o.frame ≡ false
enough o = le-ltb o.frame o.frame (omega arith)

pub begun-start : (o : Opening) → (begin_of o).start ≡ start_by (frame_size_broken o.frame) (payload_size_broken o.payload)
unfolding open_of opening_rows
begun-start o = rw (enough o) (go (frame_size_broken o.frame) (payload_size_broken o.payload))
  where
    go : (a b : Bool) → (open_by (first_row (row 45 a ∷ row 46 b ∷ row 47 false ∷ [])) o).start ≡ start_by a b
    go true b = refl
    go false true = refl
    go false false = refl

pub begun-open : (o : Opening) → sizes_broken o ≡ false → begin_of o ≡ record { trace = new_trace o; start = Ok tt }
unfolding open_of opening_rows sizes_broken
begun-open o e = rw (or-first (frame_size_broken o.frame) (payload_size_broken o.payload) e, or-second (frame_size_broken o.frame) (payload_size_broken o.payload) e, enough o)

-- the sizes of the ledger program and of a replay are such, and their frames end by EOF
pub ledger-fits : (sizes_broken ledger_sizes ≡ false) × (by_eof ledger_sizes ≡ true)
unfolding sizes_broken frame_size_broken payload_size_broken by_eof
ledger-fits = (refl, refl)

pub replay-fits : (sizes_broken replay_sizes ≡ false) × (by_eof replay_sizes ≡ true)
unfolding sizes_broken frame_size_broken payload_size_broken by_eof
replay-fits = (refl, refl)
