use Rattle.ledger.proofs.bytes.Goals as goal

pub returns : goal.returns
returns c = simp c.place.ensures.0
