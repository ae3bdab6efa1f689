use Rattle.templates.proofs.Fields.{letter-put}
use Rattle.templates.proofs.letter.Goals as goal

pub returns : goal.returns
returns c = let both = letter-put _ _ c.seen.ensures c.put.ensures in record { put = both.0; upper_bound = both.1 }
