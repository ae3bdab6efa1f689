-- A configuration's descriptors, blocks and limits, said without a walk. `s` is the configuration.
use Rattle.std.specs.Prelude.{ℕ, ◌≤◌, ◌<◌, ◌≡◌, List, ◌⊎◌, length, get_or}
use Rattle.rules.specs.Walk.{Reached}
use Rattle.rules.specs.Walk as walk
use Rattle.configuration_rules.specs.Descriptors.{streaming_subclass, number_at}
use Rattle.configuration_rules.specs.Words.{Video, StreamingFirst, ClassSpecific}
use Rattle.interfaces.specs.Line.{course}
use Rattle.interfaces.specs.Limits.{interfaces_most, settings_most, listed_among, settings_among}

-- a descriptor starts at o
abbrev pub Starts : List ℕ → ℕ → Type 0
Starts s o = walk.Starts (course s) o

-- the list has exactly the descriptors of which P holds, in order of appearance
pub record Lists (s : List ℕ) (P : ℕ → Type 0) (l : List ℕ) : Type 0 where
  pub each : (i : ℕ) → i < length l → Starts s (get_or l i 0) × P (get_or l i 0)
  pub order : (i j : ℕ) → i < j → j < length l → get_or l i 0 < get_or l j 0
  pub all : (o : ℕ) → Starts s o → P o → (i : ℕ) × (i < length l) × (get_or l i 0 ≡ o)

-- from a to e stand 0x24 descriptors alone, and no longer run of them starts at a
pub record Run (s : List ℕ) (a e : ℕ) : Type 0 where
  pub order : a ≤ e
  pub within : e ≤ length s
  pub each : (o : ℕ) → Starts s o → a ≤ o → o < e → ClassSpecific s o
  pub longest : e < length s → Starts s e × (ClassSpecific s e → ⊥)

-- 75: the descriptor at o, behind these, is the ninth streaming descriptor of setting 0, or the 33rd of its number
abbrev pub OneTooMany : List ℕ → List ℕ → ℕ → Type 0
OneTooMany s before o =
    (StreamingFirst s o × (interfaces_most ≤ listed_among s before)) ⊎ (Video s streaming_subclass o × (settings_most ≤ settings_among s (number_at s o) before))

-- the first that is
pub record FirstTooMany (s : List ℕ) (o : ℕ) : Type 0 where
  pub before : List ℕ
  pub there : Reached (course s) before o
  pub inside : o < length s
  pub broken : OneTooMany s before o
  pub earliest : (l : List ℕ) (p : ℕ) → Reached (course s) l p → p < o → OneTooMany s l p → ⊥

-- none is
abbrev pub NoneTooMany : List ℕ → Type 0
NoneTooMany s = (l : List ℕ) (o : ℕ) → Reached (course s) l o → o < length s → OneTooMany s l o → ⊥
