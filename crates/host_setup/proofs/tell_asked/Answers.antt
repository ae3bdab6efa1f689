use Rattle.host_setup.proofs.Found.{refused-asked, asks-asked}
use Rattle.host_setup.proofs.tell_asked.Goals as goal

pub returns-in-Refused : goal.returns-in-Refused
returns-in-Refused c = search refused-asked

pub returns-in-Asks : goal.returns-in-Asks
returns-in-Asks c = search asks-asked
