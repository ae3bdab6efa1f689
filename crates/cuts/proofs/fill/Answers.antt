use Rattle.std.proofs.Common.{ℕ, ◌≤◌, length, subst, sym}
use Rattle.std.proofs.Math.Nat.{min-le_left}
use Rattle.cuts.proofs.Branches.{least-is, put_first}
use Rattle.cuts.proofs.fill.Goals as goal

pub returns : goal.returns
returns c =
    let few = subst (λ (n : ℕ). n ≤ length c.args.input.now) (sym c.min-n.ensures) (min-le_left (length c.args.input.now) _) in
    record { value = least-is _ _ _ c.min-n.ensures; piece_after = put_first _ _ _ _ _ few c.put.ensures }
