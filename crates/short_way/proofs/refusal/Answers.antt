use Rattle.short_way.proofs.Found.{take_found}
use borrow.Author.Rules.{rules}
use Rattle.short_way.proofs.refusal.Goals as goal

pub returns : goal.returns
returns c = take_found c.args.rest.now c.args.m.now (search rules) _ c.posted_broken.ensures _ c.args.room c.args.n c.take_refusal.ensures
