-- What the types of a session's rest say of its numbers: one byte, 32 and 16 bits.
use Rattle.session_rules.specs.Options.{Layer, Stamp}
use Rattle.std.specs.Prelude.{◌<◌, None, Some}
use Rattle.session_rules.specs.declared.Phase.{Phase}
use Rattle.session_rules.specs.declared.Phase.TheVariants.{Fresh, Under, Past}
use Rattle.session_rules.specs.declared.Rest.{Rest}

abbrev pub StampFits : Stamp → Type 0
StampFits None = Unit {0}
StampFits (Some x) = x < 4294967296

abbrev pub LayerFits : Layer → Type 0
LayerFits None = Unit {0}
LayerFits (Some x) = x < 65536

abbrev pub PhaseFits : Phase → Type 0
PhaseFits Fresh = Unit {0}
PhaseFits (Past fid) = Unit {0}
PhaseFits (Under run) = StampFits run.stamp × LayerFits run.layer

pub record Fits (r : Rest) : Type 0 where
  pub framing : r.opening.framing < 256
  pub taken : r.taken < 4294967296
  pub last : StampFits r.last
  pub phase : PhaseFits r.track.phase
