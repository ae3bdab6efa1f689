use Rattle.std.proofs.Common.{◌-◌, length, rules}
use Rattle.convert.proofs.Feeds.{fill-within, fill-small, fed-fresh, fed-waits, fed-fills}
use Rattle.convert.proofs.feed.Goals as goal

pub returns-then-have-eq0 : goal.returns-then-have-eq0
returns-then-have-eq0 c = fed-fresh c.args.r _ _ _ c.requires.0.0 c.requires.0.1 c.if-have-eq0.true _ _ _ _ c.rest.ensures

pub overflow_add-have : goal.overflow_add-have
overflow_add-have c = search (rules, fill-small _ (length c.args.input.now) (length c.args.piece.now - c.args.r.have) c.fill-n.ensures.value)

pub returns-then-have-n-lt64 : goal.returns-then-have-n-lt64
returns-then-have-n-lt64 c = fed-waits c.args.r _ _ _ c.requires.0.0 c.requires.0.1 _ _ c.fill-n.ensures.value c.fill-n.ensures.piece_after c.if-have-n-lt64.true

pub rest-requires-2 : goal.rest-requires-2
rest-requires-2 c = (
  fill-within _ (length c.args.input.now) (length c.args.piece.now - c.args.r.have) c.fill-n.ensures.value,
  search (rules, c.run-w.ensures.at_bound),
)

pub returns : goal.returns
returns c = fed-fills c.args.r _ _ _ c.requires.0.0 c.requires.0.1 _ _ c.fill-n.ensures.value c.fill-n.ensures.piece_after c.if-have-n-lt64.false _ _ _ c.run-w.ensures.converter_value _ _ _ _ c.rest-2.ensures
