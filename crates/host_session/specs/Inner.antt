-- What inner contracts cite. Nothing here needs to be believed.
use Rattle.std.specs.Prelude.{ℕ, ◌≤◌, ◌≡◌, Bool, true, false, List, length, drop}
use Rattle.rule_50.specs.Inner.{posted_broken}
use Rattle.session_words.specs.Reading.{spare_set, rest_in}
use Rattle.session_words.specs.Told.{plain_told}
use Rattle.session_rules.specs.Accounts.{number_count}
use Rattle.host_session.specs.declared.packets.Step.{Step}
use Rattle.host_session.specs.Calls.{Left, Said, take_in}
use Rattle.host_session.specs.Packets.{lost_left}

-- what is posted is not broken by 50, and the ledger's rest is zero
pub record Sound (m w : List ℕ) : Type 0 where
  pub spare : spare_set w ≡ false
  pub posted : posted_broken m (rest_in w).taken ≡ false

-- it is, where that is said
abbrev pub SoundIf : Bool → List ℕ → List ℕ → Type 0
SoundIf known m w = known ≡ true → Sound m w

-- the short way: yes, and it is the call, which is kept, and what is posted stays sound; or no, and nothing changed
pub record Goes (r : Bool) (m w buffer t m' w' buffer' : List ℕ) (known : Bool) : Type 0 where
  pub yes : r ≡ true → take_in m w buffer t ≡ record { told = plain_told 0 1 0; numbers = m'; words = w'; buffer = buffer' }
  pub sound : r ≡ true → SoundIf known m' w'
  pub no : r ≡ false → (m' ≡ m) × ((w' ≡ w) × (buffer' ≡ buffer))
  pub places : length m' ≡ number_count

-- one packet: what it leaves, and whether what is posted is sound after it
pub record Steps (x : Step) (l : Left) (m' w' buffer' : List ℕ) : Type 0 where
  pub told : x.told ≡ l.told
  pub numbers : m' ≡ l.numbers
  pub words : w' ≡ l.words
  pub buffer : buffer' ≡ l.buffer
  pub sound : SoundIf x.known m' w'
  pub places : length m' ≡ number_count

-- one that is lost leaves any buffer as it was
abbrev pub Missed : Step → Said → List ℕ → List ℕ → Type 0
Missed x l m' w' = (buffer : List ℕ) → Steps x (lost_left l buffer) m' w' buffer

-- the place of the next packet's bytes
pub record Next (bytes : List ℕ) (at stride r : ℕ) : Type 0 where
  pub within : r ≤ length bytes
  pub left : drop r bytes ≡ drop stride (drop at bytes)
