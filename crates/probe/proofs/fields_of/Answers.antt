use Rattle.probe.proofs.Each.{fields-are}
use Rattle.probe.proofs.fields_of.Goals as goal

pub returns : goal.returns
returns c = fields-are _ _ _ _ _ _ _ _ _ _ _ _ _ _ _ _ _ _ _ _ _ c.le16-hint.ensures c.le32-interval.ensures c.le16-key_rate.ensures
    c.le16-p_rate.ensures c.le16-quality.ensures c.le16-window.ensures c.le16-delay.ensures c.le32-frame_size.ensures
    c.le32-payload_size.ensures c.late32-clock.ensures c.late16-rate_modes.ensures c.late_layout-layout.ensures
    c.byte_at.ensures c.byte_at-2.ensures c.byte_at-3.ensures c.byte_at-4.ensures
    c.byte_at-5.ensures c.byte_at-6.ensures c.byte_at-7.ensures c.byte_at-8.ensures
