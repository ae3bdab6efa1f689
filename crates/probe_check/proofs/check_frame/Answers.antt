use Rattle.probe_check.proofs.Checking.{frame-44, frame-45, frame-46, frame-well}
use mathlib.Core.Path.{refl}
use Rattle.probe_check.proofs.check_frame.Goals as goal

pub returns-then-not-offered : goal.returns-then-not-offered
returns-then-not-offered c = frame-44 _ _ _ _ c.le32.ensures _ c.offers_at-offered.ensures _ (rw c.if-not-offered.true) c.refused.ensures

pub returns-then-frame_size_broken : goal.returns-then-frame_size_broken
returns-then-frame_size_broken c = frame-45 _ _ _ _ c.le32.ensures _ c.offers_at-offered.ensures _ (rw c.if-not-offered.false) _ c.le32-frame_size.ensures _
    c.frame_size_broken.ensures c.if-frame_size_broken.true c.refused-then-frame_size_broken.ensures

pub returns-then-payload_size_broken : goal.returns-then-payload_size_broken
returns-then-payload_size_broken c = frame-46 _ _ _ _ c.le32.ensures _ c.offers_at-offered.ensures _ (rw c.if-not-offered.false) _ c.le32-frame_size.ensures _
    c.frame_size_broken.ensures c.if-frame_size_broken.false _ c.le32-payload_size.ensures _
    c.payload_size_broken.ensures c.if-payload_size_broken.true c.refused-then-payload_size_broken.ensures

pub returns : goal.returns
returns c = frame-well _ _ _ _ c.le32.ensures _ c.offers_at-offered.ensures _ (rw c.if-not-offered.false) _ c.le32-frame_size.ensures _
    c.frame_size_broken.ensures c.if-frame_size_broken.false _ c.le32-payload_size.ensures _
    c.payload_size_broken.ensures c.if-payload_size_broken.false refl
