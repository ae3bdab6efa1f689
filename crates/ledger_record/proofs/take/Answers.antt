use Rattle.places.proofs.Branches.{right-size}
use Rattle.ledger_record.proofs.Branches.{take-54, take-refused, take-met}
use Rattle.ledger_record.proofs.take.Goals as goal

pub returns-then-broken : goal.returns-then-broken
returns-then-broken c = let both = take-54 _ _ _ _ _ c.broken.ensures c.if-broken.true in record { value = both.0; r_after = both.1.0; buffer_after = both.1.1 }

pub numbers_of-numbers-requires : goal.numbers_of-numbers-requires
numbers_of-numbers-requires c = search right-size

pub returns-then-is_refused : goal.returns-then-is_refused
returns-then-is_refused c = let both = take-refused _ _ _ _ _ c.broken.ensures c.if-broken.false _ _ _ c.numbers_of-numbers.ensures _ c.take-taken.ensures.m_after c.take-taken.ensures.buffer_after _ c.is_refused.ensures c.if-is_refused.true in record { value = both.0; r_after = both.1.0; buffer_after = both.1.1 }

pub show-requires : goal.show-requires
show-requires c = search right-size

pub returns : goal.returns
returns c = let both = take-met _ _ _ _ _ c.broken.ensures c.if-broken.false _ _ _ c.numbers_of-numbers.ensures _ c.take-taken.ensures.m_after c.take-taken.ensures.buffer_after _ _ c.is_refused.ensures c.if-is_refused.false c.show.ensures in record { value = both.0; r_after = both.1.0; buffer_after = both.1.1 }
