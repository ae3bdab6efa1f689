use mathlib.Core.Path.{◌∙◌, ap}
use Rattle.arguments.specs.Digits.{number_or, byte_of}
use Rattle.arguments.proofs.Most.{byte-most}
use Rattle.arguments.proofs.byte_of.Goals as goal

pub returns : goal.returns
unfolding byte_of
returns c = let e = c.or_else.ensures ∙ ap (number_or 256) c.read.ensures in
    (e, rw e (byte-most _))
