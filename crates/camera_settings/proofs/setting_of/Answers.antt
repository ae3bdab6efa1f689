use Rattle.std.proofs.Common.{arith}
use Rattle.camera_settings.specs.declared.Setting.TheVariants.{Brightness, Contrast, Hue, Saturation}
use Rattle.camera_settings.specs.Numbers.{SettingIs.has-selector}
use Rattle.camera_settings.proofs.Known.{no-setting}
use Rattle.camera_settings.proofs.setting_of.Goals as goal

pub returns-in-2 : goal.returns-in-2
returns-in-2 c = has-selector Brightness c.in-2.is

pub returns-in-3 : goal.returns-in-3
returns-in-3 c = has-selector Contrast c.in-3.is

pub returns-in-6 : goal.returns-in-6
returns-in-6 c = has-selector Hue c.in-6.is

pub returns-in-7 : goal.returns-in-7
returns-in-7 c = has-selector Saturation c.in-7.is

pub returns-in_default : goal.returns-in_default
returns-in_default c = no-setting _ (λ e. omega arith) (λ e. omega arith) (λ e. omega arith) (λ e. omega arith)
