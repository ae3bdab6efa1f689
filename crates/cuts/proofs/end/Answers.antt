use Rattle.cuts.proofs.Branches.{rest-within}
use Rattle.cuts.proofs.end.Goals as goal

pub overflow_sub-result-2 : goal.overflow_sub-result-2
overflow_sub-result-2 c = search rest-within
