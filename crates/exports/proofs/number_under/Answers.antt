use Rattle.exports.proofs.Verdicts.{accepted-under, refused-under}
use Rattle.exports.proofs.number_under.Goals as goal

pub returns-in-Err : goal.returns-in-Err
returns-in-Err c = refused-under _ _ _ _ c.in-Err.is

pub returns-in-Ok : goal.returns-in-Ok
returns-in-Ok c = search accepted-under
