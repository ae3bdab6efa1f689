use Rattle.streaming_descriptors.proofs.Subtypes.{format-is}
use Rattle.streaming_descriptors.specs.Descriptors.{shape}
use Rattle.streaming_descriptors.proofs.shape_ok.Goals as goal

pub returns-in-Header : goal.returns-in-Header
unfolding shape
returns-in-Header c = rw c.in-Header.is c.header_shape.ensures

pub returns-in-Formats : goal.returns-in-Formats
returns-in-Formats c = rw c.in-Formats.is (format-is _ _ _ c.requires.0 _ _ c.format_shape.ensures)

pub returns-in-Frames : goal.returns-in-Frames
unfolding shape
returns-in-Frames c = rw c.in-Frames.is c.frame_shape.ensures

pub returns-in-Unread : goal.returns-in-Unread
unfolding shape
returns-in-Unread c = rw c.in-Unread.is

pub returns-in-Other : goal.returns-in-Other
unfolding shape
returns-in-Other c = rw c.in-Other.is
