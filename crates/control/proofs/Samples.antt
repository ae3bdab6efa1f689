-- Document 01's samples of the control block, over the definition that `read` promises; and a block with two paths to one source, and one with a loop that no
-- output terminal reaches.
use Rattle.rules.specs.Verdicts.{accept}
use Prim.Native.Nat.{ℕ}
use mathlib.Core.Path.{refl}
use mathlib.Core.List.{List, [], ◌∷◌, ◌++◌}
use lib.ListN.{length}
use native.Mathlib.Omega.{arith}
use Rattle.rules.specs.IfElse.{if_else}
use Rattle.rules.specs.First.{First}
use Rattle.rules.specs.Walk.{walk_from, walk}
use Rattle.entities.specs.Table.{no_table, find_from}
use Rattle.entities.specs.Revisions.{says_of}
use Rattle.entities.specs.declared.Entity.{Entity}
use Rattle.entities.specs.declared.Revision.TheVariants.{R15}
use Rattle.control_rules.specs.Descriptors.{revision_by, known_as, kind_of, fixed_at, counted_at, sized_at, input_at, shape, is_entity, terminal_of, source_count, source_place}
use Rattle.blocks.specs.Blocks.{whole_rows, length_broken, type_broken}
use Rattle.control_rules.specs.Rules.{is_revision, revision_right, pin_count, pins_right, entity_rows, kind_rows, rows_in, entities_at}
use Rattle.sources.specs.Sources.{Breaks13, Breaks15, Judged.thirteen, Judged.fifteen}
use Rattle.sources.proofs.Loops.{all_below, earlier, orderly, orderly-is, orderly-fine, plain, all_plain, plain-found, plain-kept, feed-each-other, feeds-itself}
use Rattle.control.specs.Answer.{used_before, refused_by, accepted_with, ControlIs, ControlIs.source, ControlIs.sound}

-- a header of 12 bytes in a block of n, at 48,000,000 Hz
abbrev pub header : ℕ → List ℕ
header n = 0x0C ∷ 0x24 ∷ 0x01 ∷ 0x50 ∷ 0x01 ∷ n ∷ 0x00 ∷ 0x00 ∷ 0x6C ∷ 0xDC ∷ 0x02 ∷ 0x00 ∷ []

-- a selector with one input pin, an input terminal of type 0x0101, and an output terminal of that type
abbrev pub selector : ℕ → ℕ → List ℕ
selector id from = 0x07 ∷ 0x24 ∷ 0x04 ∷ id ∷ 0x01 ∷ from ∷ 0x00 ∷ []

abbrev pub input : ℕ → List ℕ
input id = 0x08 ∷ 0x24 ∷ 0x02 ∷ id ∷ 0x01 ∷ 0x01 ∷ 0x00 ∷ 0x00 ∷ []

abbrev pub output : ℕ → ℕ → List ℕ
output id from = 0x09 ∷ 0x24 ∷ 0x03 ∷ id ∷ 0x01 ∷ 0x01 ∷ 0x00 ∷ from ∷ 0x00 ∷ []

-- a processing unit, and a selector with two input pins
abbrev pub processing : ℕ → ℕ → List ℕ
processing id from = 0x0D ∷ 0x24 ∷ 0x05 ∷ id ∷ from ∷ 0x00 ∷ 0x00 ∷ 0x03 ∷ 0x00 ∷ 0x00 ∷ 0x00 ∷ 0x00 ∷ 0x00 ∷ []

abbrev pub selector2 : ℕ → ℕ → ℕ → List ℕ
selector2 id from from' = 0x08 ∷ 0x24 ∷ 0x04 ∷ id ∷ 0x02 ∷ from ∷ from' ∷ 0x00 ∷ []

abbrev pub at-twelve : Entity
at-twelve = record { id = 5; kind = 4; terminal = 0; offset = 12 }

-- selector 3 has two paths to terminal 1: its own, and that by unit 2
abbrev pub two-paths : List ℕ
two-paths = header 0x29 ++ (input 1 ++ (processing 2 1 ++ selector2 3 1 2))

abbrev pub two-path-entities : List Entity
two-path-entities =
    record { id = 1; kind = 2; terminal = 0x0101; offset = 12 }
    ∷ record { id = 2; kind = 5; terminal = 0; offset = 20 }
    ∷ record { id = 3; kind = 4; terminal = 0; offset = 33 }
    ∷ []

-- selectors 5 and 6 feed each other, and output terminal 2 leads to terminal 1 alone
abbrev pub apart : List ℕ
apart = header 0x2B ++ (selector 5 6 ++ (selector 6 5 ++ (input 1 ++ output 2 1)))

abbrev pub apart-entities : List Entity
apart-entities =
    at-twelve
    ∷ record { id = 6; kind = 4; terminal = 0; offset = 19 }
    ∷ record { id = 1; kind = 2; terminal = 0x0101; offset = 26 }
    ∷ record { id = 2; kind = 3; terminal = 0x0101; offset = 34 }
    ∷ []

-- what the first entity of a list breaks is broken first there
first-here : (l : List Entity) (P : ℕ → Type 0) → P 0 → First P (length l) 0
first-here l P p = record { within = omega arith; before = λ i h. absurd (omega arith); here = λ h. p }

pub record Samples : Type 0 where
  -- P: the header alone: accepted, no entities, 48,000,000 Hz
  pub header-alone : ControlIs (header 0x0C) (record { verdict = accept; table = record { count = 0; entities = no_table.entities; clock = 48000000; revision = R15 } })
  -- P: a selector that names itself: 15 at 12. P: one that names nothing: 13 at 12
  pub names-itself : ControlIs (header 0x13 ++ selector 5 5) (refused_by 15 12)
  pub names-nothing : ControlIs (header 0x13 ++ selector 5 6) (refused_by 13 12)
  -- two paths to one source are no loop
  pub two-paths-accepted : ControlIs two-paths (accepted_with two-paths two-path-entities)
  -- a loop that no output terminal reaches is one
  pub unreached-loop : ControlIs apart (refused_by 15 12)

pub samples : Samples
unfolding whole_rows rows_in kind_rows length_broken type_broken says_of revision_by known_as shape counted_at fixed_at sized_at input_at kind_of is_revision revision_right entity_rows is_entity pins_right pin_count terminal_of used_before entities_at if_else walk_from walk source_count source_place find_from all_below earlier orderly plain all_plain
samples = record {
  header-alone = sound [] (refl, (refl, (refl, (refl, tt)))) refl (orderly-fine (header 0x0C) [] (orderly-is (header 0x0C) [] refl));
  names-itself = source (at-twelve ∷ []) 15 12 (refl, (refl, (refl, (refl, tt)))) refl
      (fifteen 0 (omega arith) (plain-found (header 0x13 ++ selector 5 5) (at-twelve ∷ []) refl) (plain-kept (header 0x13 ++ selector 5 5) (at-twelve ∷ []) refl)
      (first-here (at-twelve ∷ []) (Breaks15 (header 0x13 ++ selector 5 5) (at-twelve ∷ []))
      (feeds-itself (header 0x13 ++ selector 5 5) (at-twelve ∷ []) 0 (omega arith, (0, omega arith, refl)))));
  names-nothing = source (at-twelve ∷ []) 13 12 (refl, (refl, (refl, (refl, tt)))) refl
      (thirteen 0 (omega arith) (first-here (at-twelve ∷ []) (Breaks13 (header 0x13 ++ selector 5 6) (at-twelve ∷ [])) (0, omega arith, refl)));
  two-paths-accepted = sound two-path-entities (refl, (refl, (refl, (refl, tt)))) refl (orderly-fine two-paths two-path-entities (orderly-is two-paths two-path-entities refl));
  unreached-loop = source apart-entities 15 12 (refl, (refl, (refl, (refl, tt)))) refl
      (fifteen 0 (omega arith) (plain-found apart apart-entities refl) (plain-kept apart apart-entities refl)
      (first-here apart-entities (Breaks15 apart apart-entities)
      (feed-each-other apart apart-entities 0 1 (omega arith, (0, omega arith, refl)) (omega arith, (0, omega arith, refl)))));
}
