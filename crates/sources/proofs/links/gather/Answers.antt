use native.Mathlib.Omega.{arith}
use mathlib.Core.Path.{◌≡◌, ap, ◌∙◌}
use Prim.Native.Nat.{ℕ}
use Rattle.entities.specs.Table.{used, find_from}
use Rattle.sources.proofs.Found.{said-none}
use Rattle.sources.proofs.Linking.{linking, links-more, linked, used-place}
use borrow.Author.Rules.{rules}
use Rattle.sources.proofs.links.gather.Goals as goal

pub loop-q-init : goal.loop-q-init
loop-q-init c = linking _ _

pub names_output-output-requires : goal.names_output-output-requires
names_output-output-requires c = (used-place c.args.t _ _ c.find_among-f.ensures, search rules)

pub place_bit-row-requires : goal.place_bit-row-requires
place_bit-row-requires c = λ j e. omega (arith, used-place c.args.t _ _ c.find_among-f.ensures j e)

pub loop-q-preserved : goal.loop-q-preserved
loop-q-preserved c = let l = c.loop-q in
    let t = c.args.t in
    links-more _ _ _ _ _ _ l.invariant c.find_among-f.result _ _ _ (c.find_among-f.ensures ∙ ap (λ (x : ℕ). find_from 0 (used t) x) c.byte_at.ensures) (said-none _ _ c.is_none-lost.ensures) c.names_output-output.ensures c.place_bit-row.ensures

pub returns : goal.returns
returns c = let l = c.loop-q in
    let q : l.q ≡ c.source_count-count.result = omega arith in
    linked _ _ _ _ _ _ _ _ c.source_place.ensures.0 (q ∙ c.source_count-count.ensures.0) l.invariant
