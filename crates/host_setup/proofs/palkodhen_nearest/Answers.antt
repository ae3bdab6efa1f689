use Rattle.host_setup.proofs.Found.{no_number, this-number}
use Rattle.host_setup.proofs.palkodhen_nearest.Goals as goal

pub returns-in-None : goal.returns-in-None
returns-in-None c = search no_number

pub returns-in-Some : goal.returns-in-Some
returns-in-Some c = search this-number
