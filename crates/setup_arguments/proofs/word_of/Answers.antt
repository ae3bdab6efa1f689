use Rattle.rules.specs.IfElse.{if_elses}
use Rattle.setup_arguments.specs.Arguments.{word_of}
use Rattle.setup_arguments.proofs.word_of.Goals as goal

pub returns-then-is_signed : goal.returns-then-is_signed
unfolding word_of
returns-then-is_signed c = search if_elses depth 8

pub returns : goal.returns
unfolding word_of
returns c = search if_elses depth 8
