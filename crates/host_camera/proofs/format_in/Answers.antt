use Rattle.host_told.proofs.Kth.{past-count, past_end, is-there}
use borrow.Author.Rules.{rules}
use Rattle.host_camera.proofs.format_in.Goals as goal

pub returns-then-count-k : goal.returns-then-count-k
returns-then-count-k c = search (past-count, rules)

pub returns-then-k-ge-FORMATS_MOST : goal.returns-then-k-ge-FORMATS_MOST
returns-then-k-ge-FORMATS_MOST c = search (past_end, rules)

pub returns : goal.returns
returns c = search (is-there, rules)
