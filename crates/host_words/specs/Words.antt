-- A refusal's number in plain words, as C keeps a text: a zero ends it.
use Rattle.std.specs.Prelude.{ℕ, ◌-◌, Bool, true, not, ◌&&◌, List, [], ◌∷◌, ◌++◌, length, drop, eqb, ltb}
use Rattle.rules.specs.IfElse.{if_else}
use Rattle.refusal_words.specs.Words.{words_of}

-- a line with a zero for its line end
unfoldable pub ended : List ℕ → List ℕ
ended [] = []
ended (x ∷ []) = 0 ∷ []
ended (x ∷ y ∷ l) = x ∷ ended (y ∷ l)

-- the bytes that a room must have
abbrev pub room_least : ℕ
room_least = 72

-- THE LENGTH OF THE WORDS of number n: 0 where it has none, or the room is short
abbrev pub length_in : ℕ → List ℕ → ℕ
length_in n room = if_else (ltb (length room) room_least) 0 (length (words_of n) - 1)

-- WHAT THE ROOM HOLDS: the words, a zero, and what stood behind them; all as it was where the number has none, or the room is short
abbrev pub left_in : ℕ → List ℕ → List ℕ
left_in n room = if_else (ltb (length room) room_least) room (ended (words_of n) ++ drop (length (words_of n)) room)

-- a text of C: its last byte is 0, and no other
abbrev pub is_text : List ℕ → Bool
is_text [] = true
is_text (x ∷ []) = eqb x 0
is_text (x ∷ y ∷ l) = not (eqb x 0) && is_text (y ∷ l)
