use Rattle.session_words.proofs.Differ.{read-spare, read-other, read-laid}
use Rattle.session_words.proofs.words.read.Goals as goal

pub returns-then-spare_set : goal.returns-then-spare_set
returns-then-spare_set c = read-spare _ _ c.spare_set.ensures c.if-spare_set.true

pub returns-then-differs : goal.returns-then-differs
returns-then-differs c = read-other _ _ c.spare_set.ensures c.if-spare_set.false _ c.rest_in-rest.ensures _ c.words_of-x.ensures _ c.differs.ensures c.if-differs.true

pub returns : goal.returns
returns c = read-laid _ _ c.spare_set.ensures c.if-spare_set.false _ c.rest_in-rest.ensures _ c.words_of-x.ensures _ c.differs.ensures c.if-differs.false
