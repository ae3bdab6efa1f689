use Rattle.places.proofs.Branches.{right-size, held_none, held_all}
use Rattle.places.proofs.read.Goals as goal

pub returns-then-broken : goal.returns-then-broken
returns-then-broken c = search held_none

pub numbers_of-numbers-requires : goal.numbers_of-numbers-requires
numbers_of-numbers-requires c = search right-size

pub returns : goal.returns
returns c = search held_all
