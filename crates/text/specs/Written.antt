-- What a call leaves in the lent buffer and answers, of any text: all of it at the front, or nothing where the buffer has under `room` bytes.
use Rattle.std.specs.Prelude.{Bool, true, false, List, ◌++◌, ℕ, ltb, length, drop}

abbrev pub size_by : Bool → List ℕ → ℕ
size_by true t = 0
size_by false t = length t

abbrev pub buffer_by : Bool → List ℕ → List ℕ → List ℕ
buffer_by true t old = old
buffer_by false t old = t ++ drop (length t) old

abbrev pub answer_of : ℕ → List ℕ → List ℕ → ℕ
answer_of room t old = size_by (ltb (length old) room) t

abbrev pub buffer_of : ℕ → List ℕ → List ℕ → List ℕ
buffer_of room t old = buffer_by (ltb (length old) room) t old
