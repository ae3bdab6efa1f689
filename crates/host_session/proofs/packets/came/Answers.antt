use mathlib.Core.Path.{sym, ap, ◌∙◌}
use Rattle.host_session.specs.Calls.{Left}
use Rattle.host_session.proofs.packets.came.Goals as goal

pub returns-then-tries : goal.returns-then-tries
returns-then-tries c = let e = c.tries.ensures.yes c.if-tries.true in record { told = c.plain.ensures ∙ ap (λ (x : Left). x.told) (sym e); numbers = ap (λ (x : Left). x.numbers) (sym e); words = ap (λ (x : Left). x.words) (sym e); buffer = ap (λ (x : Left). x.buffer) (sym e); sound = c.tries.ensures.sound c.if-tries.true; places = c.tries.ensures.places }

pub long-told-requires : goal.long-told-requires
long-told-requires c = c.tries.ensures.places

pub is_sound-requires : goal.is_sound-requires
is_sound-requires c = c.long-told.ensures.m_len

pub returns : goal.returns
returns c = let n = c.tries.ensures.no c.if-tries.false in let l = rw (n.0, n.1.0, n.1.1) at c.long-told.ensures in record { told = l.value; numbers = l.m_after; words = l.w_after; buffer = l.buffer_after; sound = c.is_sound.ensures; places = l.m_len }
