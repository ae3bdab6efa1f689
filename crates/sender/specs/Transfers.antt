-- Document 02, Nine: frames cut into transfers.
use Rattle.session_rules.specs.Options.{Stamp}
use Rattle.std.specs.Prelude.{ℕ, zero, suc, ◌-◌, ◌≤◌, ◌≡◌, Bool, true, false, not, List, [], ◌∷◌, ◌++◌, length, take, drop}
use Rattle.sender.specs.Header.{size_of, written}

-- A FRAME that is sent: its bytes, and its stamp or none
pub record Frame : Type 0 where
  pub load : List ℕ
  pub stamp : Stamp

-- the most data of one transfer: what the payload size leaves after the header
abbrev pub data_most : ℕ → Stamp → ℕ
data_most payload s = payload - size_of s

-- THE TRANSFERS of a frame, in order: each begins with its header and takes the next p bytes, the last what is left; EOF is on the last
abbrev pub is_nil : List ℕ → Bool
is_nil [] = true
is_nil (x ∷ l) = false

abbrev pub cut_by : ℕ → ℕ → Bool → Stamp → List ℕ → List (List ℕ)
cut_by zero p fid s l = []
cut_by (suc k) p fid s [] = []
cut_by (suc k) p fid s (x ∷ l) = (written fid (is_nil (drop p (x ∷ l))) s ++ take p (x ∷ l)) ∷ cut_by k p fid s (drop p (x ∷ l))

abbrev pub cut : ℕ → Bool → Frame → List (List ℕ)
cut payload fid f = cut_by (length f.load) (data_most payload f.stamp) fid f.stamp f.load

-- THE TRANSFERS OF FRAMES one after the other, from one sender: the FID turns for each
abbrev pub sent_of : ℕ → Bool → List Frame → List (List ℕ)
sent_of payload fid [] = []
sent_of payload fid (f ∷ fs) = cut payload fid f ++ sent_of payload (not fid) fs

-- EVERY TRANSFER BUT THE LAST IS FULL, and the last is not longer
abbrev pub Full : ℕ → List (List ℕ) → Type 0
Full n [] = Unit {0}
Full n (t ∷ []) = length t ≤ n
Full n (t ∷ (u ∷ us)) = (length t ≡ n) × Full n (u ∷ us)

-- the data of transfers whose headers have k bytes, one after the other
abbrev pub data_in : ℕ → List (List ℕ) → List ℕ
data_in k [] = []
data_in k (t ∷ ts) = drop k t ++ data_in k ts
