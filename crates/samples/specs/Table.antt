-- Document 01, "Samples on both sides": those marked P, about the definitions that the contracts cite.
use Rattle.rules.specs.Verdicts.{accept}
use Rattle.std.specs.Prelude.{ℕ, ◌≡◌, List, [], ◌∷◌, ◌++◌, map, replicate}
use Rattle.entities.specs.Table.{no_table}
use Rattle.entities.specs.declared.Revision.TheVariants.{R15}
use Rattle.control.specs.Answer.{ControlIs, refused_by}
use Rattle.sizes.specs.declared.Opening.{Opening}
use Rattle.sizes.specs.declared.HeaderKind.TheVariants.{Old}
use Rattle.session_rules.specs.declared.Fate.{Fate}
use Rattle.session_rules.specs.declared.Step.TheVariants.{Forward, Backward}
use Rattle.session_rules.specs.Step.{step_of}
use Rattle.session_rules.specs.declared.Outcome.{Outcome}
use Rattle.session_rules.specs.Refusals.{ledger_of}
use Rattle.session_rules.specs.Session.{fresh, plainly, take_of}
use Rattle.books.specs.Rule.{entries, numbers_of}
use Rattle.session_rules.specs.Call.{Call}
use Rattle.session_rules.specs.Calls.{Offer, after}

-- a header of n bytes in all, and a selector with ID 5 and one source
abbrev pub header : ℕ → List ℕ
header n = 0x0C ∷ 0x24 ∷ 0x01 ∷ 0x50 ∷ 0x01 ∷ n ∷ 0x00 ∷ 0x00 ∷ 0x6C ∷ 0xDC ∷ 0x02 ∷ 0x00 ∷ []

abbrev pub selector : ℕ → List ℕ
selector source = 0x07 ∷ 0x24 ∷ 0x04 ∷ 0x05 ∷ 0x01 ∷ source ∷ 0x00 ∷ []

-- frame size 256, payload size 62, as the ledger program has them
abbrev pub opening : Opening
opening = record { frame = 256; payload = 62; framing = 3; kind = Old }

-- what a transfer answers in a fresh session, with a buffer of the frame size
abbrev pub answer : List ℕ → Outcome
answer t = (take_of (fresh opening) 256 t).outcome

-- the transfers of the ledger program's sample, and the numbers that it prints
abbrev pub transfers : List (List ℕ)
transfers =
    (0x02 ∷ 0x80 ∷ 0xAA ∷ 0xBB ∷ [])
    ∷ (0x02 ∷ 0x82 ∷ 0xCC ∷ [])
    ∷ (0x02 ∷ 0x82 ∷ 0xDD ∷ [])
    ∷ (0x02 ∷ 0x81 ∷ 0xEE ∷ [])
    ∷ (0x02 ∷ 0x80 ∷ 0x11 ∷ [])
    ∷ (0x02 ∷ [])
    ∷ (0x02 ∷ 0x82 ∷ 0x22 ∷ [])
    ∷ []

abbrev pub printed : List ℕ
printed = 1 ∷ 3 ∷ 1 ∷ 2 ∷ 0 ∷ 0 ∷ 0 ∷ 0 ∷ 0 ∷ 0 ∷ 1 ∷ 1 ∷ 0 ∷ 0 ∷ 0 ∷ 0 ∷ 0 ∷ 0 ∷ 0 ∷ 0 ∷ 1 ∷ 1 ∷ 1 ∷ 1 ∷ 6 ∷ 12 ∷ 0 ∷ 0 ∷ 0 ∷ 0 ∷ 1 ∷ []

pub record Samples : Type 0 where
  -- 0C 24 01 50 01 0C 00 00 6C DC 02 00: accepted, no entities, 48,000,000 Hz
  pub header-alone : ControlIs (header 0x0C) (record { verdict = accept; table = record { count = 0; entities = no_table.entities; clock = 48_000_000; revision = R15 } })
  -- byte 5 as 0x13, then 07 24 04 05 01 05 00: 15 at 12; source 06 instead: 13 at 12
  pub names-itself : ControlIs (header 0x13 ++ selector 0x05) (refused_by 15 12)
  pub names-nothing : ControlIs (header 0x13 ++ selector 0x06) (refused_by 13 12)
  -- 02 80 kept; 03 80 is 64; 02 00 is 66; 0B 8C and nine bytes is 65; 0C 8C and ten bytes kept
  pub bare : answer (0x02 ∷ 0x80 ∷ []) ≡ Outcome.Taken (plainly Fate.Kept)
  pub past_end : answer (0x03 ∷ 0x80 ∷ []) ≡ Outcome.Taken (plainly (Fate.Unreadable 64))
  pub without_end : answer (0x02 ∷ 0x00 ∷ []) ≡ Outcome.Taken (plainly (Fate.Unreadable 66))
  pub short-of-clock : (a b c d e f g h i : ℕ) → answer (0x0B ∷ 0x8C ∷ a ∷ b ∷ c ∷ d ∷ e ∷ f ∷ g ∷ h ∷ i ∷ []) ≡ Outcome.Taken (plainly (Fate.Unreadable 65))
  pub with-clock : (a b c d e f g h i j : ℕ) → answer (0x0C ∷ 0x8C ∷ a ∷ b ∷ c ∷ d ∷ e ∷ f ∷ g ∷ h ∷ i ∷ j ∷ []) ≡ Outcome.Taken (plainly Fate.Kept)
  -- step from FFFFFFF0 to 00000010 is 32; from 0 to 7FFFFFFF forward; from 0 to 80000000 backward
  pub over-the-end : step_of 0xFFFFFFF0 0x00000010 ≡ Forward 32
  pub half-less-one : step_of 0 0x7FFFFFFF ≡ Forward 0x7FFFFFFF
  pub half : step_of 0 0x80000000 ≡ Backward 0x80000000
  -- the ledger, by the rule and by the session
  pub by-rule : numbers_of (entries opening (map Call.transfer transfers)) ≡ printed
  pub by-session : (ledger_of (after (fresh opening) (map (Offer.take (replicate 256 0)) transfers))).numbers ≡ printed
