use Prim.Native.Nat.{◌+◌, ◌*◌, ◌≤◌}
use lib.ListN.{take}
use Rattle.text.specs.Put.{Put}
use Rattle.text.specs.Text.{numbers}
use Rattle.text.proofs.numbers.Given as goal

abbrev pub invariant-loop-n : goal.invariant-loop-n
invariant-loop-n l = (l.at ≤ l.start + 21 * l.n-index) × Put l.initial.buf l.start (numbers (take l.n-index l.ns)) l.at l.buf
