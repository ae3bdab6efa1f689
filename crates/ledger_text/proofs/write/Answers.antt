use mathlib.Core.Path.{◌≡◌, sym, ◌∙◌}
use mathlib.Core.List.{List, map}
use Prim.Native.Nat.{ℕ}
use native.Mathlib.Omega.{arith}
use lib.ListN.{length, length-map}
use Rattle.ledger_text.specs.Report.{room}
use Rattle.text.proofs.Whole.{short, whole}
use Rattle.ledger_text.proofs.write.Goals as goal

-- an array in a struct has its length
length-of : (X Y : Type 0) (f : X → Y) (l : List X) (n : ℕ) → length (map f l) ≡ n → length l ≡ n
length-of X Y f l n e = sym (length-map l f) ∙ e

pub returns-then-buf-lt-ROOM : goal.returns-then-buf-lt-ROOM
returns-then-buf-lt-ROOM c = let both = short room _ _ c.if-buf-lt-ROOM.true in record { value = both.0; buf_after = both.1.0; prefix_len = both.1.1 }

pub slice_bounds-report-end : goal.slice_bounds-report-end
slice_bounds-report-end c = sym (search length-of)

pub returns : goal.returns
returns c = let both = whole room _ (omega arith) c.report.ensures in record { value = both.0; buf_after = both.1.0; prefix_len = both.1.1 }
