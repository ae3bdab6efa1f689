use Rattle.exports.proofs.Verdicts.{accepted-is, refused-is}
use Rattle.exports.proofs.number_of.Goals as goal

pub returns-in-Ok : goal.returns-in-Ok
returns-in-Ok c = search accepted-is

pub returns-in-Err : goal.returns-in-Err
returns-in-Err c = refused-is _ _ c.in-Err.is
