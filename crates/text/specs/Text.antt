-- Printed text as a list of bytes: names, numbers, lines.
use Rattle.std.specs.Prelude.{List, [], ◌∷◌, ◌++◌, ℕ, ◌+◌, take, drop}
use Prim.Native.Char.{code}
use Prim.Native.String.{String, [] as ε, ◌∷◌ as ◌◃◌}
use Rattle.text.specs.Decimal.{decimal}

-- a name, byte by byte
abbrev pub bytes : String → List ℕ
bytes ε = []
bytes (c ◃ s) = code c ∷ bytes s

-- the texts of some things, one after the other
abbrev pub texts : {A : Type 0} → (A → List ℕ) → List A → List ℕ
texts f [] = []
texts f (x ∷ xs) = f x ++ texts f xs

-- a number after a space
abbrev pub number : ℕ → List ℕ
number n = 32 ∷ decimal n

abbrev pub numbers : List ℕ → List ℕ
numbers ns = texts number ns

-- a name, its numbers, and the line's end
abbrev pub line : List ℕ → List ℕ → List ℕ
line name ns = name ++ (numbers ns ++ (10 ∷ []))

-- a line of a report: its name, and how many numbers it has
pub record Row : Type 0 where
  pub name : List ℕ
  pub count : ℕ

-- how many numbers some rows have
abbrev pub total : List Row → ℕ
total [] = 0
total (r ∷ rs) = r.count + total rs

-- the lines of some rows: each takes its numbers from the front
abbrev pub lines : List Row → List ℕ → List ℕ
lines [] ns = []
lines (r ∷ rs) ns = line r.name (take r.count ns) ++ lines rs (drop r.count ns)

-- a line has at most so many bytes: a name of at most 16, eight numbers of 21, and its end
abbrev pub line_most : ℕ
line_most = 192
