-- The arguments of `setup`: names, as they are printed, and numbers of a setting's type.
use Rattle.std.specs.Prelude.{ℕ, ◌-◌, ◌%◌, ◌^◌, ◌≡◌, List, [], ◌∷◌, eqb, None, Option, Some}
use Rattle.rules.specs.IfElse.{if_else}
use Rattle.camera_settings.specs.Numbers.{is_signed}
use Rattle.camera_settings.specs.declared.Setting.{Setting}
use Rattle.camera_settings.specs.declared.Request.{Request}
use Rattle.arguments.specs.Digits.{number_of}
use Rattle.setup_lines.specs.Lines.{setting_name, request_name}

-- the setting, and the request, that has the name; none where no one has it
pub data SettingNamed (word : List ℕ) : Option Setting → Type 0 where
  named : (c : Setting) → word ≡ setting_name c → SettingNamed word (Some c)
  unnamed : ((c : Setting) → word ≡ setting_name c → ⊥) → SettingNamed word None

pub data RequestNamed (word : List ℕ) : Option Request → Type 0 where
  named : (q : Request) → word ≡ request_name q → RequestNamed word (Some q)
  unnamed : ((q : Request) → word ≡ request_name q → ⊥) → RequestNamed word None

-- the word of a number below zero
unfoldable pub minus_of : Option ℕ → Option ℕ
minus_of (Some n) = Some ((2 ^ 16 - n % 2 ^ 16) % 2 ^ 16)
minus_of None = None

-- from −32,768 to 32,767, a minus sign (byte 45) in front of a number below zero
unfoldable pub signed_of : List ℕ → Option ℕ
signed_of [] = None
signed_of (d ∷ l) = if_else (eqb d 45) (minus_of (number_of 32768 l)) (number_of 32767 (d ∷ l))

-- the word that stands for a number of the setting's type
unfoldable pub word_of : Setting → List ℕ → Option ℕ
word_of s text = if_else (is_signed s) (signed_of text) (number_of 65535 text)
