use Rattle.session_words.specs.Words.{words_of}
use Rattle.session_words.proofs.words.words_of.Goals as goal

pub returns : goal.returns
unfolding words_of
returns c = rw (c.layer_word.ensures, c.stamp_word-2.ensures, c.stamp_word.ensures, c.marks_of.ensures, c.run_of-run.ensures)
