use Rattle.setup.proofs.Deciding.{build-first, build-room, kept}
use Rattle.setup.proofs.build.Goals as goal

pub returns-in-Ok : goal.returns-in-Ok
returns-in-Ok c = record { build_is = build-room _ _ _ _ _ c.ready-verdict.ensures _ c.in-Ok.is c.write.ensures.value; room_after = c.write.ensures.room_after }

pub returns-in-Err : goal.returns-in-Err
returns-in-Err c = record { build_is = build-first _ _ _ _ _ c.ready-verdict.ensures _ _ c.in-Err.is; room_after = kept _ _ _ _ _ c.in-Err.is }
