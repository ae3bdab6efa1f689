use Rattle.places.proofs.Branches.{right-size}
use Rattle.ledger_record.proofs.Branches.{close-54, close-refused, close-closed}
use Rattle.ledger_record.proofs.close.Goals as goal

pub returns-then-broken : goal.returns-then-broken
returns-then-broken c = let both = close-54 _ _ _ c.broken.ensures c.if-broken.true in record { value = both.0; r_after = both.1 }

pub numbers_of-numbers-requires : goal.numbers_of-numbers-requires
numbers_of-numbers-requires c = search right-size

pub returns-then-is_refused_closing : goal.returns-then-is_refused_closing
returns-then-is_refused_closing c = let both = close-refused _ _ _ c.broken.ensures c.if-broken.false _ _ c.numbers_of-numbers.ensures _ c.close-closed.ensures _ c.is_refused_closing.ensures c.if-is_refused_closing.true in record { value = both.0; r_after = both.1 }

pub show-requires : goal.show-requires
show-requires c = search right-size

pub returns : goal.returns
returns c = let both = close-closed _ _ _ c.broken.ensures c.if-broken.false _ _ c.numbers_of-numbers.ensures _ c.close-closed.ensures _ _ c.is_refused_closing.ensures c.if-is_refused_closing.false c.show.ensures in record { value = both.0; r_after = both.1 }
