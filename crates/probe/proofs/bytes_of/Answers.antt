use Rattle.probe.proofs.Each.{bytes-are}
use Rattle.probe.proofs.bytes_of.Goals as goal

pub returns : goal.returns
returns c = bytes-are _ _ _ _ _ _ _ _ _ _ _ _ c.to_le_bytes-hint.ensures c.to_le_bytes-interval.ensures c.to_le_bytes-key_rate.ensures
    c.to_le_bytes-p_rate.ensures c.to_le_bytes-quality.ensures c.to_le_bytes-window.ensures
    c.to_le_bytes-delay.ensures c.to_le_bytes-frame_size.ensures c.to_le_bytes-payload_size.ensures
    c.to_le_bytes-clock.ensures c.to_le_bytes-rate_modes.ensures
