use Rattle.rules.specs.IfElse.{if_elses}
use Rattle.session_words.specs.Reading.{layer_in}
use Rattle.session_words.proofs.words.layer_in.Goals as goal

pub returns-then-x-eq0 : goal.returns-then-x-eq0
unfolding layer_in
returns-then-x-eq0 c = search if_elses

pub returns : goal.returns
unfolding layer_in
returns c = search if_elses
