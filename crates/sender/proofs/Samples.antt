-- A sample of the claim, computed: three frames, one of them with a stamp, cut to a payload size of 8.
use Rattle.std.specs.Prelude.{None, Some}
use Prim.Native.Nat.{ℕ}
use native.Mathlib.Omega.{arith}
use mathlib.Core.Path.{◌≡◌, refl}
use mathlib.Core.Bool.{false}
use mathlib.Core.List.{List, [], ◌∷◌, ◌++◌, map}
use lib.ListN.{replicate}
use Rattle.sizes.specs.Sizes.{frame_size_broken, payload_size_broken, sizes_broken}
use Rattle.rules.specs.IfElse.{if_else}
use Rattle.sizes.specs.declared.Opening.{Opening}
use Rattle.sizes.specs.declared.HeaderKind.TheVariants.{Old}
use Rattle.sizes.specs.Framing.{by_eof}
use Rattle.session_rules.specs.Layouts.{header_layout}
use Rattle.session_rules.specs.Transfer.{flag_of, layer_place, need_of, rows_by, stamp_of, layer_of, header_by, reading_of}
use Rattle.session_rules.specs.Entry.{Entry}
use Rattle.session_rules.specs.Call.{Call}
use Rattle.books.specs.Rule.{frames_by}
use Rattle.sender.specs.Transfers.{Frame, sent_of}
use Rattle.sender.specs.Claim.{delivered, Receives}

abbrev opening : Opening
opening = record { frame = 16; payload = 8; framing = 3; kind = Old }

abbrev film : List Frame
film =
    record { load = 1 ∷ 2 ∷ 3 ∷ 4 ∷ 5 ∷ 6 ∷ 7 ∷ []; stamp = None }
    ∷ record { load = 8 ∷ 9 ∷ 10 ∷ 11 ∷ []; stamp = Some 4_294_967_280 }
    ∷ record { load = 12 ∷ []; stamp = None }
    ∷ []

abbrev frame_of : ℕ → Frame
frame_of x = record { load = x ∷ []; stamp = None }

abbrev one : ℕ → List Frame
one x = frame_of x ∷ []

pub sample-sent : sent_of 8 false film ≡
    (2 ∷ 128 ∷ 1 ∷ 2 ∷ 3 ∷ 4 ∷ 5 ∷ 6 ∷ []) ∷ (2 ∷ 130 ∷ 7 ∷ []) ∷ (6 ∷ 133 ∷ 240 ∷ 255 ∷ 255 ∷ 255 ∷ 8 ∷ 9 ∷ []) ∷ (6 ∷ 135 ∷ 240 ∷ 255 ∷ 255 ∷ 255 ∷ 10 ∷ 11 ∷ []) ∷ (2 ∷ 130 ∷ 12 ∷ []) ∷ []
sample-sent = refl

-- the frames of that list, by the rule
pub sample-frames : frames_by opening (map Call.transfer (sent_of 8 false film)) ≡ map delivered film
unfolding if_else by_eof header_layout flag_of layer_place need_of rows_by stamp_of layer_of header_by reading_of
sample-frames = refl

-- the premises of the claim hold of it
pub sample-receives : Receives opening (replicate 16 0) film
unfolding by_eof sizes_broken frame_size_broken payload_size_broken
sample-receives = record {
  kind = refl;
  eof = refl;
  sizes = refl;
  room = omega arith;
  each = (
    record { some = omega arith; few = omega arith; above = omega arith; stamped = tt },
    (
      record { some = omega arith; few = omega arith; above = omega arith; stamped = omega arith },
      (record { some = omega arith; few = omega arith; above = omega arith; stamped = tt }, tt),
    ),
  );
  limit = omega arith;
}

-- two fresh senders: the second frame has the FID of the first, and is stray
pub two-senders : frames_by opening (map Call.transfer (sent_of 8 false (one 170) ++ sent_of 8 false (one 187))) ≡ delivered (frame_of 170) ∷ record { entry = Entry.Stray 1; load = 187 ∷ [] } ∷ []
unfolding if_else by_eof header_layout flag_of layer_place need_of rows_by stamp_of layer_of header_by reading_of
two-senders = refl
