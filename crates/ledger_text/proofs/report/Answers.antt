use Rattle.ledger_text.proofs.report.Goals as goal

pub returns-in-Good : goal.returns-in-Good
returns-in-Good c = rw c.in-Good.is c.ledger.ensures

pub returns-in-Bad : goal.returns-in-Bad
returns-in-Bad c = rw c.in-Bad.is c.bad.ensures

pub returns-in-Refused : goal.returns-in-Refused
returns-in-Refused c = rw c.in-Refused.is c.refused.ensures
