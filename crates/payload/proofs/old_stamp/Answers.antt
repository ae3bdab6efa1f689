use Rattle.session_rules.specs.Layouts.{header_layout}
use borrow.Author.Rules.{rules}
use Rattle.payload.proofs.old_stamp.Goals as goal

pub stamp_of-requires : goal.stamp_of-requires
unfolding header_layout
stamp_of-requires c = search rules

pub returns : goal.returns
unfolding header_layout
returns c = search rules
