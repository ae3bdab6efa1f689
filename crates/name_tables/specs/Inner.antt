-- What the inner contracts cite. Nothing here needs to be believed.
use Rattle.std.specs.Prelude.{◌≡◌, List, ℕ, ◌+◌, ◌≤◌, length, drop}
use Rattle.name_tables.specs.Tables.{name_length, behind}

-- the name that begins at `from` ends at r
pub record Ends (t : List ℕ) (from r : ℕ) : Type 0 where
  pub within : r ≤ length t
  pub here : r ≡ from + name_length (drop from t)

-- the k-th name begins at r
pub record Begins (t : List ℕ) (k r : ℕ) : Type 0 where
  pub within : r ≤ length t
  pub here : behind k t ≡ drop r t
