use Rattle.host_probe.proofs.Steps.{too_wide, all_fit}
use Rattle.host_probe.proofs.write_as.Goals as goal

pub returns-then-i-lt-WORDS : goal.returns-then-i-lt-WORDS
returns-then-i-lt-WORDS c = let both = too_wide _ _ _ _ c.fields_in-p.ensures _ c.words_of.ensures _ c.wide_at-i.ensures c.if-i-lt-WORDS.true _ c.too_wide.ensures in record { value = both.0; room_after = both.1 }

pub returns : goal.returns
returns c = let both = all_fit _ _ _ _ c.fields_in-p.ensures _ c.words_of.ensures _ c.wide_at-i.ensures c.if-i-lt-WORDS.false _ _ c.write-verdict.ensures.value.0 c.write-verdict.ensures.value.1 _ c.tell.ensures in record { value = both.0; room_after = both.1 }
