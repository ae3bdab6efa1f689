use borrow.Author.Rules.{rules}
use Rattle.setup_arguments.specs.Arguments.{minus_of}
use Rattle.setup_arguments.proofs.minus.Goals as goal

pub returns : goal.returns
unfolding minus_of
returns c = search rules
