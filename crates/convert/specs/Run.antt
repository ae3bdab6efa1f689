-- What a run of the converter is, by what its calls promise.
use Rattle.std.specs.Prelude.{◌≡◌, ℕ, ◌%◌, ◌^◌, true, ◌⊎◌, List, [], ◌∷◌, ◌++◌, take, nat_lt}
use Rattle.convert.specs.declared.Converter.{Converter}
use Rattle.convert.specs.declared.Reader.{Reader}
use Rattle.convert.specs.Inner.{new_reader, Fed, Ended}

-- the bytes of some reads, one after the other
abbrev pub bytes_in : List (List ℕ) → List ℕ
bytes_in [] = []
bytes_in (input ∷ inputs) = input ++ bytes_in inputs

-- ONE CALL of `feed`: what it wrote stands at the front of the lent bytes, whatever they held before
pub record Step (r : Reader) (piece input : List ℕ) (r' : Reader) (piece' text : List ℕ) : Type 0 where
  pub old : List ℕ
  pub new : List ℕ
  pub wrote : ℕ
  pub fed : Fed r piece input old r' wrote piece' new
  pub front : text ≡ take wrote new

-- THE READS are fed in turn: from a reader and the piece to those after them, and what is written
abbrev pub Steps : List (List ℕ) → Reader → List ℕ → Reader → List ℕ → List ℕ → Type 0
Steps [] r piece r' piece' text = (r ≡ r') × ((piece ≡ piece') × (text ≡ []))
Steps (input ∷ inputs) r piece r' piece' text =
    (x : Reader) × ((p : List ℕ) × ((s : List ℕ) × ((t : List ℕ) × (Step r piece input x p s × (Steps inputs x p r' piece' t × (text ≡ s ++ t))))))

-- A RUN on a file: its bytes are fed in reads of any size, to the end or until it has stopped; then comes `last`. What the piece holds at first is free.
pub record Run (file : List ℕ) : Type 0 where
  pub reads : List (List ℕ)
  pub unread : List ℕ
  pub all : file ≡ bytes_in reads ++ unread
  pub piece₀ : List ℕ
  pub reader : Reader
  pub piece : List ℕ
  pub text : List ℕ
  pub fed : Steps reads new_reader piece₀ reader piece text
  pub enough : (unread ≡ []) ⊎ (reader.converter.stopped ≡ true)
  pub old : List ℕ
  pub new : List ℕ
  pub wrote : ℕ
  pub ended : Reader
  pub last : Ended reader piece old ended wrote new
  pub output : List ℕ
  pub written : output ≡ text ++ take wrote new

-- IT STOPPED AT RECORD N, or, where N is 0, it did not stop; its number is N, as far as 64 bits hold it
pub record StoppedAt (c : Converter) (n : ℕ) : Type 0 where
  pub stopped : c.stopped ≡ nat_lt 0 n
  pub number : c.stopped ≡ true → c.number ≡ n % 2 ^ 64
