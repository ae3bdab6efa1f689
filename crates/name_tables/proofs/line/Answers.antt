use Rattle.name_tables.proofs.Names.{name-fits, name-put}
use Rattle.name_tables.proofs.line.Goals as goal

pub line-requires : goal.line-requires
line-requires c = search name-fits

pub returns : goal.returns
returns c = search name-put
