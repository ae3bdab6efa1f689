-- What the inner contracts cite. Nothing here needs to be believed.
use Rattle.std.specs.Prelude.{◌≡◌, List, [], ℕ, ◌-◌}
use Rattle.text.specs.Text.{line}
use Rattle.name_tables.specs.Tables.{name_at}
use Rattle.refusal_words.specs.Words.{words_of}

-- in a table whose rows are from `first` on, the row of n is its words
pub record Says (first n : ℕ) (t : List ℕ) : Type 0 where
  pub words : line (name_at (n - first) t) [] ≡ words_of n
