use Rattle.streaming_rules.proofs.Ladder.{own-subtype}
use Rattle.streaming_descriptors.specs.Descriptors.{kind_at, format_of}
use native.Mathlib.Omega.{arith}
use Rattle.streaming_descriptors.proofs.Subtypes.{frame-long}
use Rattle.streaming_rules.proofs.offers_at.Goals as goal

pub bounds-s-at : goal.bounds-s-at
bounds-s-at c = omega (arith, frame-long (format_of (kind_at c.args.s.now c.args.at)) c.args.s.now c.args.at _ c.requires)

pub offers_under-requires : goal.offers_under-requires
offers_under-requires c = rw (c.format_of-format.ensures, c.kind_of-kind.ensures) c.requires

pub returns : goal.returns
returns c = search own-subtype
