use Rattle.control_map.proofs.Bytes.{Filling}
use Rattle.control_map.proofs.control_bytes.Given as goal

abbrev pub invariant-loop-i : goal.invariant-loop-i
invariant-loop-i l = Filling l.s l.at l.n l.byte-items l.i
