use Rattle.session_words.proofs.telling.frame.Goals as goal

pub returns : goal.returns
returns c = rw (c.stamp_low-stamp.ensures, c.layer_low-layer.ensures, c.layer_flag-layered.ensures.0, c.stamp_flag-stamped.ensures.0)
