use Rattle.std.proofs.Common.{◌≡◌, List, length, ◌∙◌, ap, arith}
use lib.Seq.{take_all}
use Rattle.entities.specs.Table.{entities_most, found_among}
use Rattle.entities.specs.declared.Entity.{Entity}
use Rattle.entities.proofs.Finding.{length-of}
use Rattle.control_map.proofs.place_among.Goals as goal

pub returns : goal.returns
returns c =
    let l = c.args.entities in
    let n : length l ≡ entities_most = search length-of in
    c.find_lent.ensures ∙ ap (λ (x : List Entity). found_among x c.args.count c.args.id) (take_all entities_most l (omega arith))
