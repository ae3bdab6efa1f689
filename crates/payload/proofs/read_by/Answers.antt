use mathlib.Core.Path.{refl, sym}
use native.Mathlib.Omega.{arith}
use Rattle.rules.proofs.Kept.{err-is, err-above, ok-is}
use Rattle.session_rules.proofs.Readings.{unreadable-here, readable-here, header-room}
use Rattle.payload.proofs.read_by.Goals as goal

pub returns-in-Err : goal.returns-in-Err
returns-in-Err c = unreadable-here _ _ _ (sym (err-is _ _ c.in-Err.ensures)) (λ z. let h = err-above _ _ c.in-Err.ensures in omega arith)

pub header_by-requires : goal.header_by-requires
header_by-requires c = let room = header-room c.args.l _ _ _ (sym (ok-is _ _ c.in-Ok.ensures)) refl in (c.requires, room.0, room.1)

pub returns-in-Ok : goal.returns-in-Ok
returns-in-Ok c = readable-here 0 _ _ _ (sym (ok-is _ _ c.in-Ok.ensures)) refl c.header_by.ensures
