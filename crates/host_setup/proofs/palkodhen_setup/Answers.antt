use Rattle.host_setup.proofs.Found.{no-setting, this-setting}
use Rattle.host_setup.proofs.palkodhen_setup.Goals as goal

pub returns-in-None : goal.returns-in-None
returns-in-None c = search no-setting

pub returns-in-Some : goal.returns-in-Some
returns-in-Some c = search this-setting
