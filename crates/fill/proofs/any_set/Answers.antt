use Prim.Native.Nat.{◌-◌}
use lib.Dec.{eqb}
use lib.ListN.{length, take, drop, length-drop}
use lib.Seq.{take_all}
use mathlib.Core.Bool.{not}
use mathlib.Core.Path.{◌≡◌, ◌∙◌}
use native.Mathlib.Omega.{arith}
use Rattle.std.proofs.Common.{rules, tests}
use Rattle.std.proofs.lemmas.Iterator.{YieldsList-from_slice}
use Rattle.std.proofs.lemmas.Iterator.Search.{any_from_yields_List}
use Rattle.fill.proofs.Searched.{searched}
use Rattle.fill.proofs.any_set.Goals as goal

pub returns : goal.returns
returns c =
    let r = c.args.r.now in
    let at = c.args.at in
    let lent : c.iter.result.rest.now ≡ take (length r - at) (drop at r) = search rules in
    let whole = lent ∙ take_all (length r - at) (drop at r) (simp length-drop (omega arith)) in
    any_from_yields_List (λ b. not (eqb b 0)) _ _ _ c.any.ensures.ran (YieldsList-from_slice (drop at r) whole) (λ x b q k. search (rules, tests)) ∙ searched _
