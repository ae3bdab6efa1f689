-- What a list says of its last readable transfer: its FID, and whether anything unreadable or lost has come since.
use Rattle.std.specs.Prelude.{◌≡◌, Bool, true, false, List, [], ◌∷◌}
use Rattle.books.specs.Rule.{Event, idle, unreadable, missing, readable, mark}

-- the FID of the last readable transfer, if there is one
pub data LastFid : Type 0 where
  none : LastFid
  of : Bool → LastFid

abbrev pub last_fid : LastFid → List Event → LastFid
last_fid f [] = f
last_fid f (idle ∷ es) = last_fid f es
last_fid f (unreadable n ∷ es) = last_fid f es
last_fid f (missing ∷ es) = last_fid f es
last_fid f (readable h d ∷ es) = last_fid (of h.fid) es
last_fid f (mark ∷ es) = last_fid f es

-- whether an unreadable or lost transfer has come since
abbrev pub spoilt_since : Bool → List Event → Bool
spoilt_since b [] = b
spoilt_since b (idle ∷ es) = spoilt_since b es
spoilt_since b (unreadable n ∷ es) = spoilt_since true es
spoilt_since b (missing ∷ es) = spoilt_since true es
spoilt_since b (readable h d ∷ es) = spoilt_since false es
spoilt_since b (mark ∷ es) = spoilt_since b es

-- f is not its FID; nor is it, where none was readable
abbrev pub Other : Bool → LastFid → Type 0
Other f none = Unit
Other f (of g) = g ≡ f → ⊥
