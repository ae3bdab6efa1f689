use Rattle.records.proofs.Branches.{length-short, length-long}
use borrow.Author.Rules.{rules}
use Rattle.records.proofs.length.Goals as goal

pub returns-in-Short : goal.returns-in-Short
returns-in-Short c = (search length-short, search rules)

pub returns-in-Long : goal.returns-in-Long
returns-in-Long c = (search length-long, search rules)
