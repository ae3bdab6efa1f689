use Rattle.replay.proofs.Read.{piece-within, piece-size, fed-through}
use native.Mathlib.Omega.{arith}
use Rattle.replay.proofs.Read.{fed-straight, fed-at}
use Rattle.replay.proofs.feed.Goals as goal

pub returns-then-have-eq0 : goal.returns-then-have-eq0
returns-then-have-eq0 c = fed-straight _ _ _ _ _ c.requires.0 c.requires.1 _ _ _ _ _ c.if-have-eq0.true c.rest_of.ensures

pub fill-k-requires : goal.fill-k-requires
fill-k-requires c = omega (arith, c.requires.0, c.requires.1)

pub overflow_add-have : goal.overflow_add-have
overflow_add-have c = omega
    (arith, piece-within c.args.form c.args.show c.args.r.replay c.args.r.have c.args.piece.now c.requires.0 c.requires.1 c.args.input.now c.args.out.now _ _ c.fill-k.ensures.value c.fill-k.ensures.piece_after, c.requires.0)

pub returns-then-have-k : goal.returns-then-have-k
returns-then-have-k c = fed-at c.args.form c.args.show c.args.r.replay c.args.r.have c.args.piece.now c.requires.0
    c.requires.1 c.args.input.now c.args.out.now _ _ c.fill-k.ensures.value c.fill-k.ensures.piece_after _
    c.size.ensures c.if-have-k.true

pub run-lined-requires : goal.run-lined-requires
run-lined-requires c = omega
    (arith, piece-size c.args.form c.args.show c.args.r.replay c.args.r.have c.args.piece.now c.requires.0 c.requires.1 c.args.input.now c.args.out.now _ _ c.fill-k.ensures.value c.fill-k.ensures.piece_after, c.requires.2)

pub rest_of-requires-2 : goal.rest_of-requires-2
rest_of-requires-2 c = (piece-within c.args.form c.args.show c.args.r.replay c.args.r.have c.args.piece.now c.requires.0 c.requires.1 c.args.input.now c.args.out.now _ _ c.fill-k.ensures.value c.fill-k.ensures.piece_after, piece-size c.args.form c.args.show c.args.r.replay c.args.r.have c.args.piece.now c.requires.0 c.requires.1 c.args.input.now c.args.out.now _ _ c.fill-k.ensures.value c.fill-k.ensures.piece_after, omega (arith, piece-size c.args.form c.args.show c.args.r.replay c.args.r.have c.args.piece.now c.requires.0 c.requires.1 c.args.input.now c.args.out.now _ _ c.fill-k.ensures.value c.fill-k.ensures.piece_after, c.run-lined.ensures.most, c.run-lined.ensures.put.size, c.requires.2))

pub returns : goal.returns
returns c = fed-through c.args.form c.args.show c.args.r.replay c.args.r.have c.args.piece.now c.requires.0
    c.requires.1 c.args.input.now c.args.out.now _ _ c.fill-k.ensures.value c.fill-k.ensures.piece_after _ _ _ _ _ _
    c.size.ensures c.if-have-k.false c.run-lined.ensures c.rest_of-2.ensures
