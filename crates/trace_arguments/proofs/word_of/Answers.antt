use Rattle.std.proofs.Common.{sym, ◌∙◌}
use Rattle.trace_arguments.specs.Words.{Reads.file}
use Rattle.trace_arguments.proofs.word_of.Goals as goal

pub returns : goal.returns
returns c = file (sym c.is_dashed.ensures ∙ c.if-is_dashed.false)
