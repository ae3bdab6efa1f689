use Rattle.session_rules.specs.Transfer.{header_by}
use Rattle.payload.proofs.header_by.Goals as goal

pub stamp_of-stamp-requires : goal.stamp_of-stamp-requires
stamp_of-stamp-requires c = rw c.flags_at-flags.ensures c.requires.2

pub layer_of-layer-requires : goal.layer_of-layer-requires
layer_of-layer-requires c = (c.requires.0, rw c.flags_at-flags.ensures c.requires.2)

pub returns : goal.returns
unfolding header_by
returns c = simp (
  c.layer_of-layer.ensures,
  c.stamp_of-stamp.ensures,
  c.flag-error.ensures,
  c.is_still-still.ensures,
  c.flag-eof.ensures,
  c.flag-fid.ensures,
  c.flags_at-flags.ensures,
  c.wide-len.ensures.0,
)
