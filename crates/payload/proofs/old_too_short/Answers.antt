use Rattle.session_rules.specs.Layouts.{header_layout}
use borrow.Author.Rules.{rules}
use Rattle.payload.proofs.old_too_short.Goals as goal

pub returns : goal.returns
unfolding header_layout
returns c = search rules
