-- Document 02, Eight: the ledger as one record of 320 bytes, eight bytes a number, little-endian, in the order that the ledger program prints, rest zero.
use Rattle.rules.specs.Verdicts.{Verdict, accept, refuse}
use Rattle.std.specs.Prelude.{ℕ, zero, suc, ◌+◌, ◌-◌, ◌*◌, ◌/◌, ◌%◌, ◌^◌, ◌<◌, ◌≡◌, Bool, true, false, not, ◌||◌, List, [], ◌∷◌, ◌++◌, length, drop, replicate, eqb}
use Rattle.le.specs.Le.{le32_at}
use Rattle.fill.specs.Fill.{any_set}
use Rattle.session_rules.specs.Accounts.{number_count}
use Rattle.places.specs.declared.Held.{Held}

abbrev pub record_size : ℕ
record_size = 320

-- k bytes of a number, the low one first
abbrev pub little_of : ℕ → ℕ → List ℕ
little_of zero n = []
little_of (suc k) n = n % 256 ∷ little_of k (n / 256)

-- eight bytes a number
abbrev pub eights : List ℕ → List ℕ
eights [] = []
eights (n ∷ ns) = little_of 8 n ++ eights ns

-- THE RECORD of a ledger's numbers, which stand in the order of print: rest zero
unfoldable pub record_of : List ℕ → List ℕ
record_of ns = eights ns ++ replicate (record_size - 8 * length ns) 0

-- the number of the eight bytes at o, the low one first
abbrev pub word_at : List ℕ → ℕ → ℕ
word_at r o = le32_at r o + le32_at r (o + 4) * 4294967296

-- THE NUMBERS of a record: those of its first places
abbrev pub words_from : List ℕ → ℕ → ℕ → List ℕ
words_from r o zero = []
words_from r o (suc k) = word_at r o ∷ words_from r (o + 8) k

unfoldable pub numbers_in : List ℕ → List ℕ
numbers_in r = words_from r 0 number_count

-- 54: RECORD NOT 320 BYTES OR REST NOT ZERO
unfoldable pub broken54 : List ℕ → Bool
broken54 r = not (eqb (length r) record_size) || any_set (drop (8 * number_count) r)

-- READ: what a record holds, or 54 and nothing
abbrev pub held_by : Bool → List ℕ → Held
held_by true r = record { verdict = refuse 54 0; numbers = replicate number_count 0 }
held_by false r = record { verdict = accept; numbers = numbers_in r }

unfoldable pub held_of : List ℕ → Held
held_of r = held_by (broken54 r) r

-- WRITE: all 320 bytes, or 54 where there are not so many, and nothing changes
abbrev pub write_by : Bool → Verdict
write_by true = accept
write_by false = refuse 54 0

abbrev pub written_by : Bool → List ℕ → List ℕ → List ℕ
written_by true r ns = record_of ns
written_by false r ns = r

unfoldable pub write_verdict : List ℕ → Verdict
write_verdict r = write_by (eqb (length r) record_size)

unfoldable pub written : List ℕ → List ℕ → List ℕ
written r ns = written_by (eqb (length r) record_size) r ns

-- what the types say: every byte of a record is below 256, and every number of a ledger below 2^64
abbrev pub Below : ℕ → List ℕ → Type 0
Below m [] = Unit {0}
Below m (x ∷ xs) = (x < m) × Below m xs

pub record Numbers (ns : List ℕ) : Type 0 where
  pub many : length ns ≡ number_count
  pub fit : Below (2 ^ 64) ns
