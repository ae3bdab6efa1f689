use mathlib.Core.Path.{sym, ◌∙◌}
use Rattle.short_way.proofs.Found.{is_ok-none}
use Rattle.host_session.proofs.Ways.{nothing, gone}
use borrow.Author.Rules.{rules}
use Rattle.host_session.proofs.goes.Goals as goal

pub returns-then-not-is_plain : goal.returns-then-not-is_plain
returns-then-not-is_plain c = nothing c.args.m.now c.args.w.now c.args.buffer.now c.args.t.now c.args.known c.requires.0

pub refusal-requires : goal.refusal-requires
refusal-requires c = (c.requires.0, λ a. rw c.rest_in-rest.ensures (c.requires.1.1 a))

pub keep-next-requires : goal.keep-next-requires
keep-next-requires c = record { places = search rules; free = is_ok-none _ _ _ c.refusal.ensures c.is_ok.ensures.value c.if-is_ok.true; under = c.in-Under.is; on = sym c.goes_on.ensures ∙ c.if-goes_on.true }

pub returns-then-is_ok : goal.returns-then-is_ok
returns-then-is_ok c = gone c.args.m.now c.args.w.now c.args.buffer.now c.args.t.now _ _ _ c.args.known c.rest_in-rest.result c.keep-next.result _ c.rest_in-rest.ensures (c.is_plain.ensures c.if-not-is_plain.false) (record { places = c.requires.0; free = is_ok-none _ _ _ c.refusal.ensures c.is_ok.ensures.value c.if-is_ok.true; under = c.in-Under.is; on = sym c.goes_on.ensures ∙ c.if-goes_on.true }) c.requires.1.1 c.keep-next.ensures.m_after c.write.ensures c.keep-next.ensures.buffer_after

pub returns-else-is_ok : goal.returns-else-is_ok
returns-else-is_ok c = nothing c.args.m.now c.args.w.now c.args.buffer.now c.args.t.now c.args.known c.requires.0

pub returns-else-goes_on : goal.returns-else-goes_on
returns-else-goes_on c = nothing c.args.m.now c.args.w.now c.args.buffer.now c.args.t.now c.args.known c.requires.0

pub returns-in_default : goal.returns-in_default
returns-in_default c = nothing c.args.m.now c.args.w.now c.args.buffer.now c.args.t.now c.args.known c.requires.0
