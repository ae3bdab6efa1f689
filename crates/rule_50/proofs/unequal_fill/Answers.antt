use Rattle.rule_50.proofs.unequal_fill.Goals as goal

pub returns-in-None : goal.returns-in-None
returns-in-None c = simp c.in-None.is
