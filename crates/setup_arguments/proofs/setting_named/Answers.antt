use Rattle.setup_arguments.specs.Arguments.{SettingNamed.unnamed}
use Rattle.setup_arguments.specs.Arguments.{SettingNamed.named}
use mathlib.Core.Path.{◌≡◌}
use Rattle.camera_settings.specs.declared.Setting.TheVariants.{Brightness, Contrast, Hue, Saturation}
use Rattle.camera_settings.proofs.Known.{each-setting}
use Rattle.setup_lines.specs.Lines.{setting_name}
use Rattle.setup_arguments.specs.Arguments.{SettingNamed.named, SettingNamed.unnamed}
use Rattle.setup_arguments.proofs.Words.{unlike}
use Rattle.setup_arguments.proofs.setting_named.Goals as goal

pub returns-then-same : goal.returns-then-same
returns-then-same c = named Brightness (c.same.ensures.0 c.if-same.true)

pub returns-then-same-2 : goal.returns-then-same-2
returns-then-same-2 c = named Contrast (c.same-2.ensures.0 c.if-same-2.true)

pub returns-then-same-3 : goal.returns-then-same-3
returns-then-same-3 c = named Hue (c.same-3.ensures.0 c.if-same-3.true)

pub returns-then-same-4 : goal.returns-then-same-4
returns-then-same-4 c = named Saturation (c.same-4.ensures.0 c.if-same-4.true)

pub returns : goal.returns
returns c = unnamed
    (each-setting (λ s. c.args.word.now ≡ setting_name s → ⊥) (unlike _ _ _ c.if-same.false c.same.ensures.1) (unlike _ _ _ c.if-same-2.false c.same-2.ensures.1) (unlike _ _ _ c.if-same-3.false c.same-3.ensures.1) (unlike _ _ _ c.if-same-4.false c.same-4.ensures.1))
