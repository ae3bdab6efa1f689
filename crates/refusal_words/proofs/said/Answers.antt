use Rattle.refusal_words.proofs.Right.{row_fits, row_put}
use Rattle.refusal_words.proofs.said.Goals as goal

pub line-requires : goal.line-requires
line-requires c = search row_fits

pub returns : goal.returns
returns c = search row_put
