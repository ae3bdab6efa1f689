use Rattle.session_rules.specs.Transfer.{layer_place}
use borrow.Author.Rules.{rules}
use Rattle.payload.proofs.layer_place.Goals as goal

pub returns : goal.returns
unfolding layer_place
returns c = (
  simp (
    c.held-scr.ensures.0,
    c.flag-2.ensures,
    c.held-pts.ensures.0,
    c.flag.ensures,
  ),
  search rules,
)
