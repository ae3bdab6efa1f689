use Rattle.control_map.proofs.controls_at.Goals as goal

pub returns : goal.returns
returns c = rw (c.control_bytes-bytes.ensures, c.wide-2.ensures.0, c.byte_at-length.ensures, c.wide.ensures.0)
