use Rattle.host_configuration.proofs.Telling.{stream-there}
use Rattle.host_told.proofs.Kth.{past-count, past_end, is-there}
use borrow.Author.Rules.{rules}
use Rattle.host_configuration.proofs.stream_in.Goals as goal

pub returns-then-count-k : goal.returns-then-count-k
returns-then-count-k c = search (past-count, rules)

pub returns-then-k-ge-INTERFACES_MOST : goal.returns-then-k-ge-INTERFACES_MOST
returns-then-k-ge-INTERFACES_MOST c = search (past_end, rules)

pub returns : goal.returns
returns c = search (stream-there, is-there, rules)
