use Rattle.camera_names.proofs.Bits.{terminal-room, terminal-put}
use borrow.Author.Rules.{rules}
use Rattle.camera_names.proofs.terminal.Goals as goal

pub line-requires : goal.line-requires
line-requires c = search (terminal-room, rules)

pub returns : goal.returns
returns c = let both = terminal-put _ _ c.terminal_place-k.ensures c.line.ensures in record { put = both.0; upper_bound = both.1 }
