use Rattle.control_rules.proofs.revision_of.Goals as goal

pub returns : goal.returns
returns c = rw (← c.le16.ensures) c.revision_by.ensures
