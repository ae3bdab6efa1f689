-- Text with fields. `t` is the template: `%`, a form's letter and two decimal digits stand for what the bytes hold there, every other byte for itself.
use Rattle.std.specs.Prelude.{ℕ, zero, suc, ◌+◌, ◌-◌, ◌*◌, Bool, false, List, [], ◌∷◌, ◌++◌, eqb, ltb, length, get_or}
use Rattle.rules.specs.IfElse.{if_else}
use Rattle.templates.specs.Values.{form_of, value_of}

-- a field begins at i, and is whole
unfoldable pub is_field : List ℕ → ℕ → Bool
is_field t i = if_else (ltb (length t - i) 4) false (eqb (get_or t i 0) 37)

unfoldable pub length_at : List ℕ → ℕ → ℕ
length_at t i = if_else (is_field t i) 4 1

-- its two digits are added to k
unfoldable pub field_at : List ℕ → ℕ → ℕ → List ℕ → ℕ → List ℕ
field_at s o k t i = value_of (form_of (get_or t (i + 1) 0)) s o (k + ((get_or t (i + 2) 0 - 48) * 10 + (get_or t (i + 3) 0 - 48)))

unfoldable pub piece_at : List ℕ → ℕ → ℕ → List ℕ → ℕ → List ℕ
piece_at s o k t i = if_else (is_field t i) (field_at s o k t i) (get_or t i 0 ∷ [])

-- the text from place i of the template on, at most so many pieces
unfoldable pub render_from : ℕ → List ℕ → ℕ → ℕ → List ℕ → ℕ → List ℕ
render_from zero s o k t i = []
render_from (suc n) s o k t i = if_else (ltb i (length t)) (piece_at s o k t i ++ render_from n s o k t (i + length_at t i)) []

-- THE TEXT OF A TEMPLATE, of what stands at o + k
abbrev pub rendered : List ℕ → ℕ → ℕ → List ℕ → List ℕ
rendered s o k t = render_from (length t) s o k t 0

-- the texts of n things in a row, `step` bytes each
unfoldable pub listed : List ℕ → ℕ → ℕ → List ℕ → ℕ → ℕ → List ℕ
listed s o step t zero k = []
listed s o step t (suc n) k = rendered s o k t ++ listed s o step t n (k + step)
