use Rattle.streaming_descriptors.proofs.format_shape.Goals as goal

pub returns : goal.returns
returns c = rw c.layout_of-l.ensures
