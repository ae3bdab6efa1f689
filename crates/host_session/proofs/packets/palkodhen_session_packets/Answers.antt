use Rattle.host_session.specs.Packets.{Packets, done_with}
use Rattle.session_words.specs.declared.Told.{Told}
use native.Mathlib.Omega.{arith}
use mathlib.Core.List.{[], ◌∷◌}
use mathlib.Core.Path.{◌≡◌, refl, sym, ap, ◌∙◌}
use lib.ListN.{length}
use Prim.Native.Nat.{ℕ, ◌+◌}
use Rattle.host_session.proofs.Urb.{at-start, one_more, one-tells, at-end}
use borrow.Author.Rules.{rules}
use Rattle.host_session.proofs.packets.palkodhen_session_packets.Goals as goal

pub loop-k-init : goal.loop-k-init
loop-k-init c = at-start c.args.m.now c.args.w.now c.args.buffer.now c.args.bytes.now c.args.stride c.args.lengths.now _ c.requires c.is_sound-known.ensures

pub overflow_cast-n : goal.overflow_cast-n
overflow_cast-n c = omega (arith, c.type_inv.lengths c.loop-k.k)

pub packet-step-requires : goal.packet-step-requires
packet-step-requires c = (c.loop-k.invariant.places, (c.loop-k.invariant.sound, c.loop-k.invariant.within))

pub shape_of-buffer-then-not-is_quiet : goal.shape_of-buffer-then-not-is_quiet
shape_of-buffer-then-not-is_quiet c = search (rules, c.loop-k.invariant.room)

pub returns-then-not-is_quiet : goal.returns-then-not-is_quiet
returns-then-not-is_quiet c =
    let e = one-tells _ _ _ _ _ _ _ _ _ _ _ _ c.loop-k.invariant _ _ _ _ _ refl (omega arith) c.packet-step.ensures (search (rules, c.loop-k.invariant.room)) (sym c.is_quiet.ensures ∙ c.if-not-is_quiet.true) in
    record {
      value = c.packet-step.ensures.told ∙ ap (λ (x : Packets). x.left.told) (sym e);
      m_after = c.packet-step.ensures.numbers ∙ ap (λ (x : Packets). x.left.numbers) (sym e);
      w_after = c.packet-step.ensures.words ∙ ap (λ (x : Packets). x.left.words) (sym e);
      buffer_after = c.packet-step.ensures.buffer ∙ ap (λ (x : Packets). x.left.buffer) (sym e);
      taken_after = ap (λ (n : ℕ). n ∷ []) (c.done_with-done.ensures ∙ ap (λ (x : Told). c.loop-k.k + done_with x) c.packet-step.ensures.told ∙ ap (λ (x : Packets). x.taken) (sym e));
    }

pub next-at-requires : goal.next-at-requires
next-at-requires c = c.loop-k.invariant.within

pub loop-k-preserved : goal.loop-k-preserved
loop-k-preserved c = (one_more _ _ _ _ _ _ _ _ _ _ _ _ c.loop-k.invariant _ _ _ _ _ refl (omega arith) c.packet-step.ensures (search (rules, c.loop-k.invariant.room)) (sym c.is_quiet.ensures ∙ c.if-not-is_quiet.false) _ c.next-at.ensures)

pub shape_of-buffer : goal.shape_of-buffer
shape_of-buffer c = search (rules, c.loop-k.invariant.room)

pub returns : goal.returns
returns c =
    let all : length c.args.lengths.now ≡ c.loop-k.k = omega arith in
    let e = at-end _ _ _ _ _ _ _ _ _ _ _ _ c.loop-k.invariant (omega arith) in
    record {
      value = c.plain.ensures ∙ ap (λ (x : Packets). x.left.told) (sym e);
      m_after = ap (λ (x : Packets). x.left.numbers) (sym e);
      w_after = ap (λ (x : Packets). x.left.words) (sym e);
      buffer_after = ap (λ (x : Packets). x.left.buffer) (sym e);
      taken_after = ap (λ (n : ℕ). n ∷ []) (all ∙ ap (λ (x : Packets). x.taken) (sym e));
    }
