use Rattle.ledger.proofs.count.Goals as goal

pub returns : goal.returns
returns c = simp c.place-at.ensures.0
