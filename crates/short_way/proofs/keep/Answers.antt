use Prim.Native.Nat.{◌-◌}
use mathlib.Core.Path.{refl, ◌∙◌}
use lib.ListN.{length, take, drop}
use native.Mathlib.Omega.{arith}
use Rattle.copier.proofs.Laws.{laid}
use Rattle.short_way.specs.Inner.{whole_of}
use Rattle.short_way.proofs.Kept.{fits, data-fits, written}
use borrow.Author.Rules.{rules}
use Rattle.short_way.proofs.keep.Goals as goal

pub bounds-t-0 : goal.bounds-t-0
bounds-t-0 c = let f = fits (whole_of c.args.rest c.args.m.now) c.args.r _ c.args.t.now c.requires (search rules) in
    omega (arith, f.two)

pub gone_on-next-requires : goal.gone_on-next-requires
gone_on-next-requires c = c.requires

pub slice_bounds-lay-count : goal.slice_bounds-lay-count
slice_bounds-lay-count c = let f = fits (whole_of c.args.rest c.args.m.now) c.args.r _ c.args.t.now c.requires (search rules) in
    omega (arith, f.inside)

pub slice_bounds-lay-start : goal.slice_bounds-lay-start
slice_bounds-lay-start c = let f = fits (whole_of c.args.rest c.args.m.now) c.args.r _ c.args.t.now c.requires (search rules) in
    omega (arith, f.inside)

pub slice_bounds-lay-count-2 : goal.slice_bounds-lay-count-2
slice_bounds-lay-count-2 c = let f = fits (whole_of c.args.rest c.args.m.now) c.args.r _ c.args.t.now c.requires (search rules) in
    omega (arith, f.header, c.wide-len.ensures.0)

pub slice_bounds-lay-start-2 : goal.slice_bounds-lay-start-2
slice_bounds-lay-start-2 c = let f = fits (whole_of c.args.rest c.args.m.now) c.args.r _ c.args.t.now c.requires (search rules) in
    omega (arith, f.header, c.wide-len.ensures.0)

pub lay-requires : goal.lay-requires
lay-requires c = (data-fits (whole_of c.args.rest c.args.m.now) c.args.r _ c.args.t.now c.requires (search rules) _ c.wide-len.ensures.0 c.args.buffer.now refl).1

pub returns : goal.returns
returns c =
    let w = c.wide-len in
    record {
      m_after = c.gone_on-next.ensures;
      buffer_after = laid c.args.buffer.now (take (length c.args.t.now - w.result) (drop w.result c.args.t.now)) _ c.args.r.fill
          (data-fits (whole_of c.args.rest c.args.m.now) c.args.r _ c.args.t.now c.requires (search rules) _ w.ensures.0 c.args.buffer.now refl).0 c.lay.ensures
          ∙ written (whole_of c.args.rest c.args.m.now) c.args.r _ c.args.t.now c.requires (search rules) _ w.ensures.0 c.args.buffer.now refl;
    }
