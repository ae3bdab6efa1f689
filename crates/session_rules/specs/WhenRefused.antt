-- Document 01, "Numbers", 45 to 47, 50 to 53 and 55: WHEN REFUSING IS RIGHT, in words, of every opening and of any session record. The limits stand here as the document writes them.
use Rattle.session_rules.specs.Options.{Ended}
use Rattle.std.specs.Prelude.{ℕ, ◌≤◌, ◌<◌, ◌≡◌, true, false, List, [], ◌∷◌, ◌↔◌, ◌⊎◌, length, Err, Ok}
use Rattle.sizes.specs.declared.Opening.{Opening}
use Rattle.sizes.specs.Sizes.{Between}
use Rattle.session_rules.specs.declared.Session.{Session}
use Rattle.session_rules.specs.declared.Outcome.{Outcome}
use Rattle.session_rules.specs.Refusals.{Keeps50}
use Rattle.session_rules.specs.Session.{open_of, take_of, lost_of, close_of}

-- one of these numbers
abbrev pub Among : ℕ → List ℕ → Type 0
Among k [] = ⊥
Among k (n ∷ ns) = (k ≡ n) ⊎ Among k ns

-- AN OPENING: 45 frame size 0 or over 16,777,216; 46 payload size under 2 or over 65,536; 47 a buffer shorter than the frame size
pub record OpenWhen (o : Opening) (room : ℕ) : Type 0 where
  pub opens : ((open_of o room).start ≡ Ok tt) ↔ (Between 1 o.frame 16_777_216 × (Between 2 o.payload 65_536 × (o.frame ≤ room)))
  pub by-45 : ((open_of o room).start ≡ Err 45) ↔ (Between 1 o.frame 16_777_216 → ⊥)
  pub by-46 : ((open_of o room).start ≡ Err 46) ↔ (Between 1 o.frame 16_777_216 × (Between 2 o.payload 65_536 → ⊥))
  pub by-47 : ((open_of o room).start ≡ Err 47) ↔ (Between 1 o.frame 16_777_216 × (Between 2 o.payload 65_536 × (room < o.frame)))
  pub alone : (k : ℕ) → (open_of o room).start ≡ Err k → Among k (45 ∷ 46 ∷ 47 ∷ [])

-- A CALL. Nothing is in the way of close: none of 50's conditions holds, and the session is open;
pub record Closes (s : Session) : Type 0 where
  pub kept : Keeps50 s
  pub opened : s.rest.closed ≡ false

-- nor of a lost report: fewer than 4,294,967,295 transfers are taken;
pub record Notes (s : Session) : Type 0 where
  pub closes : Closes s
  pub more : s.rest.taken ≡ 4_294_967_295 → ⊥

-- nor of a transfer of n bytes with so much room: the buffer has the frame size, and the transfer at most 65,536 bytes
pub record Takes (s : Session) (room n : ℕ) : Type 0 where
  pub notes : Notes s
  pub enough : s.rest.opening.frame ≤ room
  pub small : n ≤ 65_536

-- a transfer that is not refused is taken, or a frame is handed out
abbrev pub Met : Outcome → Type 0
Met (Outcome.Refused k) = ⊥
Met (Outcome.Taken a) = Unit {0}
Met (Outcome.Handed x) = Unit {0}

pub record TakeWhen (s : Session) (room : ℕ) (t : List ℕ) : Type 0 where
  pub takes : Met (take_of s room t).outcome ↔ Takes s room (length t)
  pub by-50 : ((take_of s room t).outcome ≡ Outcome.Refused 50) ↔ (Keeps50 s → ⊥)
  pub by-53 : ((take_of s room t).outcome ≡ Outcome.Refused 53) ↔ (Keeps50 s × (s.rest.closed ≡ true))
  pub by-52 : ((take_of s room t).outcome ≡ Outcome.Refused 52) ↔ (Closes s × (s.rest.taken ≡ 4_294_967_295))
  pub by-51 : ((take_of s room t).outcome ≡ Outcome.Refused 51) ↔ (Notes s × (room < s.rest.opening.frame))
  pub by-55 : ((take_of s room t).outcome ≡ Outcome.Refused 55) ↔ (Notes s × ((s.rest.opening.frame ≤ room) × (65_536 < length t)))
  pub alone : (k : ℕ) → (take_of s room t).outcome ≡ Outcome.Refused k → Among k (50 ∷ 53 ∷ 52 ∷ 51 ∷ 55 ∷ [])

pub record LostWhen (s : Session) : Type 0 where
  pub notes : ((lost_of s).report ≡ Ok tt) ↔ Notes s
  pub by-50 : ((lost_of s).report ≡ Err 50) ↔ (Keeps50 s → ⊥)
  pub by-53 : ((lost_of s).report ≡ Err 53) ↔ (Keeps50 s × (s.rest.closed ≡ true))
  pub by-52 : ((lost_of s).report ≡ Err 52) ↔ (Closes s × (s.rest.taken ≡ 4_294_967_295))
  pub alone : (k : ℕ) → (lost_of s).report ≡ Err k → Among k (50 ∷ 53 ∷ 52 ∷ [])

pub record CloseWhen (s : Session) : Type 0 where
  pub closes : ((e : Ended) × ((close_of s).closing ≡ Ok e)) ↔ Closes s
  pub by-50 : ((close_of s).closing ≡ Err 50) ↔ (Keeps50 s → ⊥)
  pub by-53 : ((close_of s).closing ≡ Err 53) ↔ (Keeps50 s × (s.rest.closed ≡ true))
  pub alone : (k : ℕ) → (close_of s).closing ≡ Err k → Among k (50 ∷ 53 ∷ [])
