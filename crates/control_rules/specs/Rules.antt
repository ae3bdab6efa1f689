-- Document 01, "Numbers": rules 1 to 4 of a control block, and rules 5 to 12 of the descriptor at o, each with its number.
use Rattle.std.specs.Prelude.{ℕ, ◌+◌, List, [], ◌∷◌, Bool, true, not, ◌&&◌, ◌||◌, leb, eqb}
use Rattle.le.specs.Le.{byte, le16_at}
use Rattle.rules.specs.IfElse.{if_else}
use Rattle.rules.specs.Numbered.{Row, row}
use Rattle.blocks.specs.Blocks.{whole_rows, length_broken, type_broken}
use Rattle.blocks.specs.declared.Limits.{Limits}
use Rattle.entities.specs.Table.{entities_most}
use Rattle.entities.specs.declared.Entity.{Entity}
use Rattle.entities.specs.declared.Revision.{Revision}
use Rattle.control_rules.specs.Descriptors.{Kind, header, input, output, selector, processing, extension, encoding, unknown, revision_of, kind_in, kind_at, shape, is_entity, terminal_of}

-- 1 to 4: as every block, with at least 12 and at most 4,096 bytes, and wTotalLength at 5
abbrev pub limits : Limits
limits = record { least = 12; most = 4096; total = 5; first = 1 }

abbrev pub head_rows : List ℕ → List Row
head_rows s = whole_rows limits s

-- 8: bcdUVC is none of 0x0100, 0x0110 and 0x0150
unfoldable pub is_revision : ℕ → Bool
is_revision x = eqb x 0x0100 || (eqb x 0x0110 || eqb x 0x0150)

unfoldable pub revision_right : Kind → List ℕ → ℕ → Bool
revision_right header s o = is_revision (le16_at s (o + 3))
revision_right input s o = true
revision_right output s o = true
revision_right selector s o = true
revision_right processing s o = true
revision_right extension s o = true
revision_right encoding s o = true
revision_right unknown s o = true

-- 12: p is 0 or over 16
unfoldable pub pin_count : ℕ → Bool
pin_count p = leb 1 p && leb p 16

unfoldable pub pins_right : Kind → List ℕ → ℕ → Bool
pins_right header s o = true
pins_right input s o = true
pins_right output s o = true
pins_right selector s o = pin_count (byte s o 4)
pins_right processing s o = true
pins_right extension s o = pin_count (byte s o 21)
pins_right encoding s o = true
pins_right unknown s o = true

-- 9 to 12, of a descriptor whose ID was used before, or not, after n entities. 9: ID 0. 10: ID used before. 11: 33rd entity. 12: p
unfoldable pub entity_rows : Kind → List ℕ → ℕ → Bool → ℕ → List Row
entity_rows k s o used n =
    row 9 (is_entity k && eqb (byte s o 3) 0)
    ∷ row 10 (is_entity k && used)
    ∷ row 11 (is_entity k && leb entities_most n)
    ∷ row 12 (not (pins_right k s o))
    ∷ []

-- 7 to 12 of a descriptor of kind k, by a revision. 7: length or control size. 8: revision
unfoldable pub kind_rows : Revision → Kind → List ℕ → ℕ → Bool → ℕ → List Row
kind_rows v k s o used n =
    row 7 (not (shape v k s o))
    ∷ row 8 (not (revision_right k s o))
    ∷ entity_rows k s o used n

-- 5, 6: as in every block; then those of its kind, as the revision reads it
unfoldable pub rows_in : Revision → List ℕ → ℕ → Bool → ℕ → List Row
rows_in v s o used n =
    row 5 (length_broken s o)
    ∷ row 6 (type_broken s o)
    ∷ kind_rows v (kind_in v s o) s o used n

-- by the block's own
abbrev pub rows : List ℕ → ℕ → Bool → ℕ → List Row
rows s o used n = rows_in (revision_of s) s o used n

-- what the descriptor at o puts into the entity table: one entity or none
abbrev pub entity_of : List ℕ → ℕ → Entity
entity_of s o = record { id = byte s o 3; kind = byte s o 2; terminal = terminal_of (kind_at s o) s o; offset = o }

unfoldable pub entities_at : List ℕ → ℕ → List Entity
entities_at s o = if_else (is_entity (kind_at s o)) (entity_of s o ∷ []) []
