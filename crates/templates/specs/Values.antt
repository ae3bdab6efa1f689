-- What a field shows: `s` are the bytes, a thing stands at `o`, and the field at `k` of it. A byte past the end reads as 0.
use Rattle.std.specs.Prelude.{ℕ, ◌+◌, ◌*◌, ◌/◌, ◌%◌, List, [], ◌∷◌, ◌++◌, eqb, ltb}
use Rattle.le.specs.Le.{byte}
use Rattle.rules.specs.IfElse.{if_else}
use Rattle.text.specs.Decimal.{decimal}
use Rattle.configuration_rules.specs.Descriptors.{packet_bytes}
use Rattle.templates.specs.declared.Form.{Form}
use Rattle.templates.specs.declared.Form.TheVariants.{Byte, Word, Long, Packet, Hex, Rate, Letter}

-- numbers of two and of four bytes, the low one first
abbrev pub word_at : List ℕ → ℕ → ℕ → ℕ
word_at s o k = byte s o k + byte s o (k + 1) * 256

abbrev pub long_at : List ℕ → ℕ → ℕ → ℕ
long_at s o k = word_at s o k + word_at s o (k + 2) * 65536

-- 0 to 9, a to f
unfoldable pub hex_digit : ℕ → ℕ
hex_digit d = if_else (ltb d 10) (48 + d) (87 + d)

abbrev pub hex_text : ℕ → List ℕ
hex_text x = hex_digit (x / 16) ∷ hex_digit (x % 16) ∷ []

-- a byte that shows as a letter is shown, any other as a point
unfoldable pub shown : ℕ → ℕ
shown x = if_else (ltb x 33) 46 (if_else (ltb 126 x) 46 x)

abbrev pub letter_text : ℕ → List ℕ
letter_text x = shown x ∷ []

-- FRAMES PER SECOND: 10,000,000 over the interval, to the nearest hundredth, a half upwards; 0.00 of interval 0
unfoldable pub hundredths : ℕ → ℕ
hundredths n = if_else (eqb n 0) 0 ((1000000000 + n / 2) / n)

abbrev pub places : ℕ → List ℕ
places h = decimal (h / 100) ++ (46 ∷ (48 + h / 10 % 10) ∷ (48 + h % 10) ∷ [])

abbrev pub rate_text : ℕ → List ℕ
rate_text n = places (hundredths n)

-- the forms by their letters: d, w and l are numbers of one, two and four bytes, p the bytes per microframe of an endpoint, h two hexadecimal digits,
-- f frames per second; any other letter shows the byte itself
unfoldable pub form_of : ℕ → Form
form_of c =
    if_else (eqb c 100) Byte (if_else (eqb c 119) Word (if_else (eqb c 108) Long (if_else (eqb c 112) Packet (if_else (eqb c 104) Hex (if_else (eqb c 102) Rate Letter)))))

abbrev pub value_of : Form → List ℕ → ℕ → ℕ → List ℕ
value_of Byte s o k = decimal (byte s o k)
value_of Word s o k = decimal (word_at s o k)
value_of Long s o k = decimal (long_at s o k)
value_of Packet s o k = decimal (packet_bytes (word_at s o k))
value_of Hex s o k = hex_text (byte s o k)
value_of Rate s o k = rate_text (long_at s o k)
value_of Letter s o k = letter_text (byte s o k)
