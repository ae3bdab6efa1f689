use Rattle.std.proofs.Common.{◌≡◌}
use Rattle.entities.specs.Table.{entities_most}
use Rattle.entities.proofs.Finding.{taken_to}
use Rattle.entities.proofs.taken_apart.Given as goal

abbrev pub invariant-loop-i : goal.invariant-loop-i
invariant-loop-i l = l.all ≡ taken_to entities_most l.entities l.i
