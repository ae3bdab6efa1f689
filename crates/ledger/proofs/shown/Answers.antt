use Rattle.session_rules.specs.Ledger.{shown_of}
use Rattle.ledger.proofs.shown.Goals as goal

pub returns : goal.returns
unfolding shown_of
returns c = simp (c.under_bytes-bytes.ensures, c.under_count-count.ensures)
