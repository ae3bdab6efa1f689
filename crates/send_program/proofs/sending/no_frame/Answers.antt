-- By the law: the search would write the zeros out.
use Rattle.std.proofs.Common.{sym, ℕ}
use Rattle.std.proofs.lemmas.List.{length-replicate}
use Rattle.send_program.proofs.sending.no_frame.Goals as goal

pub returns : goal.returns
returns c = sym (length-replicate {0} {A = ℕ} 16777217 0)
