-- What the longest runs of equal FID are, which `runs` gives (proofs/Runs.antt).
use Rattle.std.specs.Prelude.{not, List, [], ◌∷◌, ◌++◌, T}
use Rattle.books.specs.Rule.{Seen, same}

-- all runs together
abbrev pub concat : List (List Seen) → List Seen
concat [] = []
concat (r ∷ rs) = r ++ concat rs

-- all of a run have the FID of t
abbrev pub Alike : Seen → List Seen → Type 0
Alike t [] = Unit {0}
Alike t (u ∷ us) = T (same t u) × Alike t us

-- the next run, if there is one, has not
abbrev pub Unlike : Seen → List (List Seen) → Type 0
Unlike t [] = Unit {0}
Unlike t ([] ∷ rs) = ⊥
Unlike t ((u ∷ us) ∷ rs) = T (not (same t u))

-- none is empty, each has one FID, and the next has the other
abbrev pub Longest : List (List Seen) → Type 0
Longest [] = Unit {0}
Longest ([] ∷ rs) = ⊥
Longest ((t ∷ ts) ∷ rs) = Alike t ts × Unlike t rs × Longest rs
