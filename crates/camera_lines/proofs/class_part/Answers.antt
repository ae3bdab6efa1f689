use Rattle.camera_lines.proofs.class_part.Goals as goal

pub returns-in-Control : goal.returns-in-Control
returns-in-Control c = rw (c.in-Control.is, ← c.byte_of.ensures, ← c.word_at.ensures) c.header_part.ensures
