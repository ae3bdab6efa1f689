use Rattle.templates.proofs.Fields.{rate-put}
use Rattle.templates.proofs.rate.Goals as goal

pub returns : goal.returns
returns c = let both = rate-put _ _ c.hundred_seconds-h.ensures c.digits-next.ensures.put c.digits-next.ensures.upper_bound c.put.ensures in record { put = both.0; upper_bound = both.1 }
