use Rattle.setup_arguments.specs.Arguments.{RequestNamed.unnamed}
use Rattle.setup_arguments.specs.Arguments.{RequestNamed.named}
use mathlib.Core.Path.{◌≡◌}
use Rattle.camera_settings.specs.declared.Request.TheVariants.{GetCur, GetMin, GetMax, GetRes, GetDef, SetCur}
use Rattle.camera_settings.proofs.Known.{each-request}
use Rattle.setup_lines.specs.Lines.{request_name}
use Rattle.setup_arguments.specs.Arguments.{RequestNamed.named, RequestNamed.unnamed}
use Rattle.setup_arguments.proofs.Words.{unlike}
use Rattle.setup_arguments.proofs.request_named.Goals as goal

pub returns-then-same : goal.returns-then-same
returns-then-same c = named GetCur (c.same.ensures.0 c.if-same.true)

pub returns-then-same-2 : goal.returns-then-same-2
returns-then-same-2 c = named GetMin (c.same-2.ensures.0 c.if-same-2.true)

pub returns-then-same-3 : goal.returns-then-same-3
returns-then-same-3 c = named GetMax (c.same-3.ensures.0 c.if-same-3.true)

pub returns-then-same-4 : goal.returns-then-same-4
returns-then-same-4 c = named GetRes (c.same-4.ensures.0 c.if-same-4.true)

pub returns-then-same-5 : goal.returns-then-same-5
returns-then-same-5 c = named GetDef (c.same-5.ensures.0 c.if-same-5.true)

pub returns-then-same-6 : goal.returns-then-same-6
returns-then-same-6 c = named SetCur (c.same-6.ensures.0 c.if-same-6.true)

pub returns : goal.returns
returns c = unnamed
    (each-request (λ q. c.args.word.now ≡ request_name q → ⊥) (unlike _ _ _ c.if-same.false c.same.ensures.1) (unlike _ _ _ c.if-same-2.false c.same-2.ensures.1) (unlike _ _ _ c.if-same-3.false c.same-3.ensures.1) (unlike _ _ _ c.if-same-4.false c.same-4.ensures.1) (unlike _ _ _ c.if-same-5.false c.same-5.ensures.1) (unlike _ _ _ c.if-same-6.false c.same-6.ensures.1))
