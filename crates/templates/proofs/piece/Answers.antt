use Rattle.templates.proofs.Fields.{as-field, as_byte, field_room, byte-room}
use Rattle.templates.proofs.Pieces.{whole-field}
use borrow.Author.Rules.{rules}
use Rattle.templates.proofs.piece.Goals as goal

pub field-requires : goal.field-requires
field-requires c = search (whole-field, field_room, rules)

pub returns-then-is_field : goal.returns-then-is_field
returns-then-is_field c = let both = as-field _ _ _ _ _ _ c.is_field.ensures c.if-is_field.true c.field.ensures.put c.field.ensures.upper_bound in record { put = both.0; upper_bound = both.1 }

pub put-requires : goal.put-requires
put-requires c = search (byte-room, rules)

pub returns : goal.returns
returns c = let both = as_byte _ _ _ _ _ _ c.is_field.ensures c.if-is_field.false c.put.ensures in record { put = both.0; upper_bound = both.1 }
