use Rattle.places.proofs.Branches.{right-size}
use Rattle.ledger_record.proofs.Branches.{lost-54, lost-refused, lost-noted}
use Rattle.ledger_record.proofs.lost.Goals as goal

pub returns-then-broken : goal.returns-then-broken
returns-then-broken c = let both = lost-54 _ _ _ c.broken.ensures c.if-broken.true in record { value = both.0; r_after = both.1 }

pub numbers_of-numbers-requires : goal.numbers_of-numbers-requires
numbers_of-numbers-requires c = search right-size

pub returns-then-is_refused_report : goal.returns-then-is_refused_report
returns-then-is_refused_report c = let both = lost-refused _ _ _ c.broken.ensures c.if-broken.false _ _ c.numbers_of-numbers.ensures _ c.lost-reported.ensures _ c.is_refused_report.ensures c.if-is_refused_report.true in record { value = both.0; r_after = both.1 }

pub show-requires : goal.show-requires
show-requires c = search right-size

pub returns : goal.returns
returns c = let both = lost-noted _ _ _ c.broken.ensures c.if-broken.false _ _ c.numbers_of-numbers.ensures _ c.lost-reported.ensures _ _ c.is_refused_report.ensures c.if-is_refused_report.false c.show.ensures in record { value = both.0; r_after = both.1 }
