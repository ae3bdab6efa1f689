-- The descriptors of a configuration `s`, one after the other.
use Rattle.std.specs.Prelude.{ℕ, List, [], ◌∷◌, ◌++◌, Bool, length}
use Rattle.rules.specs.IfElse.{if_else}
use Rattle.rules.specs.Numbered.{row}
use Rattle.rules.specs.Walk.{Course}
use Rattle.blocks.specs.Blocks.{len_at}
use Rattle.configuration_rules.specs.Descriptors.{broken_at}

-- the walk over them: 70 of each in turn, and where they start
abbrev pub course : List ℕ → Course (List ℕ)
course s = record {
  size = length s;
  len = λ o. len_at s o;
  rows = λ seen o. row 70 (broken_at s o) ∷ [];
  start = [];
  gather = λ seen o. seen ++ (o ∷ []);
}

-- those of a list that a test says yes to, in its order
unfoldable pub those : (ℕ → Bool) → List ℕ → List ℕ
those test [] = []
those test (o ∷ l) = if_else (test o) (o ∷ those test l) (those test l)
