use mathlib.Core.Bool.{false}
use mathlib.Core.Path.{sym}
use Rattle.short_way.proofs.Found.{take_found}
use Rattle.host_session.proofs.refusal.Goals as goal

pub returns : goal.returns
returns c = take_found c.args.rest.now c.args.m.now c.requires.0 false (sym (c.requires.1 c.if-not-known.false)) _ c.args.room c.args.n c.take_refusal.ensures
