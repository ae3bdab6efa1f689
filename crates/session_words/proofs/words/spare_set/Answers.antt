use Rattle.session_words.specs.Reading.{spare_set}
use Rattle.session_words.proofs.words.spare_set.Goals as goal

pub returns : goal.returns
unfolding spare_set
returns c = c.differs.ensures
