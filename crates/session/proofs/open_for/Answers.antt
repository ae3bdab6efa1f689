use Rattle.session.proofs.Calls.{open-refused, open-open}
use Rattle.session.proofs.open_for.Goals as goal

pub returns-in-Err : goal.returns-in-Err
returns-in-Err c = open-refused _ _ _ _ c.in-Err.ensures c.with.ensures

pub returns-in-Ok : goal.returns-in-Ok
returns-in-Ok c = open-open _ _ _ _ c.in-Ok.ensures c.with-in-Ok.ensures
