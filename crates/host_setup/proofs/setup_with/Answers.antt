use Rattle.host_setup.proofs.Found.{no-request, this-request}
use Rattle.host_setup.proofs.setup_with.Goals as goal

pub returns-in-None : goal.returns-in-None
returns-in-None c = search no-request

pub returns-in-Some : goal.returns-in-Some
returns-in-Some c = search this-request
