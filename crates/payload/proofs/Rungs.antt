-- A transfer that passes 61 to 65: 66, 67 or none.
use Prim.Native.Nat.{ℕ, ◌≤◌}
use mathlib.Core.Path.{◌≡◌, sym, ◌∙◌}
use mathlib.Core.Bool.{Bool, true, false, not}
use mathlib.Core.List.{List}
use lib.ListN.{length}
use lib.Dec.{ltb}
use borrow.Author.Tests.{le-ltb}
use native.Mathlib.Omega.{arith}
use Rattle.std.specs.Prelude.{Ok, Err}
use Rattle.rules.specs.Numbered.{first_row, kept, or_else}
use Rattle.rules.proofs.Kept.{err-kept, ok-kept}
use Rattle.session_rules.specs.declared.Layout.{Layout}
use Rattle.session_rules.specs.Transfer.{length_at, flag_of, flags_at, need_of, stamp_missing, rows_by}

module _ (l : Layout) (payload : ℕ) (t : List ℕ) (f : ℕ) (s u : Bool) (e : f ≡ flags_at l t) (least : l.least ≤ length t) (most : length t ≤ payload)
    (long : l.least ≤ length_at t) (inside : length_at t ≤ length t) (q : s ≡ ltb (length_at t) (need_of l f)) (holds : s ≡ false) (r : u ≡ not (flag_of f l.ends)) where
  passed : first_row (rows_by l payload t) ≡ or_else u 66 (or_else (stamp_missing l f) 67 0)
  unfolding rows_by
  passed =
      rw (le-ltb (length t) l.least least, le-ltb payload (length t) most, le-ltb (length_at t) l.least long, le-ltb (length t) (length_at t) inside, ← e, ← q, holds, ← r)

  pub unended-here : u ≡ true → Err 66 ≡ kept (first_row (rows_by l payload t))
  unended-here p = err-kept 66 _ (omega arith) (sym (passed ∙ rw p))

  pub unstamped-here : (v : Bool) → u ≡ false → v ≡ stamp_missing l f → v ≡ true → Err 67 ≡ kept (first_row (rows_by l payload t))
  unstamped-here v p g h = err-kept 67 _ (omega arith) (sym (passed ∙ rw (p, ← g, h)))

  pub none_here : (v : Bool) → u ≡ false → v ≡ stamp_missing l f → v ≡ false → Ok tt ≡ kept (first_row (rows_by l payload t))
  none_here v p g h = ok-kept _ (sym (passed ∙ rw (p, ← g, h)))
