-- Document 02, Eleven: brightness and hue are signed 16-bit, contrast and saturation unsigned. A word of the data stage as an integer.
use Rattle.std.specs.Prelude.{ℕ, ◌-◌, ◌^◌, ℤ, pos, neg_ℤ, ltb}
use Rattle.rules.specs.IfElse.{if_else}
use Rattle.camera_settings.specs.Numbers.{is_signed}
use Rattle.camera_settings.specs.declared.Setting.{Setting}

-- signed: from 2^15 on a word stands for a number below zero
abbrev pub signed_of : ℕ → ℤ
signed_of w = if_else (ltb w (2 ^ 15)) (pos w) (neg_ℤ (pos (2 ^ 16 - w)))

unfoldable pub integer_of : Setting → ℕ → ℤ
integer_of s w = if_else (is_signed s) (signed_of w) (pos w)
