use Rattle.templates.proofs.Fields.{hex-put}
use Rattle.templates.proofs.hex.Goals as goal

pub returns : goal.returns
returns c = let both = hex-put _ _ _ c.hex_digit.ensures c.hex_digit-2.ensures c.put.ensures in record { put = both.0; upper_bound = both.1 }
