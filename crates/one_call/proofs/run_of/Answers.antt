use Rattle.one_call.proofs.run_of.Goals as goal

pub returns-in-Fresh : goal.returns-in-Fresh
returns-in-Fresh c = rw c.in-Fresh.is c.no_run.ensures

pub returns-in-Past : goal.returns-in-Past
returns-in-Past c = rw c.in-Past.is c.no_run-in-Past.ensures
