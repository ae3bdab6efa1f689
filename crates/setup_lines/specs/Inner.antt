-- What the contract of a helper cites, and a reader need not believe: whether a word stands for a number below zero, computed.
use Rattle.std.specs.Prelude.{ℕ, Bool, false, leb}
use Rattle.rules.specs.IfElse.{if_else}
use Rattle.camera_settings.specs.Numbers.{is_signed}
use Rattle.camera_settings.specs.declared.Setting.{Setting}

unfoldable pub is_below : Setting → ℕ → Bool
is_below s w = if_else (is_signed s) (leb 32768 w) false
