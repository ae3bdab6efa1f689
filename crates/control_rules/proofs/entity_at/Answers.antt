use Rattle.control_rules.proofs.Shortest.{id-room}
use Rattle.control_rules.proofs.Subtypes.{entity-known}
use Rattle.control_rules.proofs.entity_at.Goals as goal

pub terminal_of-terminal-requires : goal.terminal_of-terminal-requires
terminal_of-terminal-requires c = rw (entity-known _ _ c.requires.at_value) at c.requires.at_le_most.1

pub bounds-s-at-2 : goal.bounds-s-at-2
bounds-s-at-2 c = search id-room

pub returns : goal.returns
returns c = rw (c.terminal_of-terminal.ensures, entity-known _ _ c.requires.at_value)
