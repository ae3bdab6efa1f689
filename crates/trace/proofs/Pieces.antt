-- A trace that is read in pieces is the trace that is read whole: each piece but the last has whole records.
use Prim.Native.Nat.{ℕ, ◌*◌}
use mathlib.Core.Path.{◌≡◌, refl, ap, ◌∙◌}
use mathlib.Core.List.{List, [], ◌∷◌, ◌++◌}
use lib.ListN.{length}
use Rattle.records.specs.declared.Form.{Form}
use Rattle.records.specs.Form.{size_of}
use Rattle.records.specs.Record.{records_of}
use Rattle.records.proofs.Records.{records-append}
use Rattle.trace.specs.Trace.{step_of, traced}
use Rattle.trace.specs.declared.Trace.{Trace}

pub traced-more : (f : Form) (xs ys : List (List ℕ)) (t : Trace) → traced f t (xs ++ ys) ≡ traced f (traced f t xs) ys
traced-more f [] ys t = refl
traced-more f (x ∷ xs) ys t = traced-more f xs ys (step_of f t x)

pub in_pieces : (f : Form) (k : ℕ) (t : Trace) (xs ys : List ℕ) → length xs ≡ k * size_of f
    → traced f t (records_of f (xs ++ ys)) ≡ traced f (traced f t (records_of f xs)) (records_of f ys)
in_pieces f k t xs ys e = ap (traced f t) (records-append f k xs ys e) ∙ traced-more f (records_of f xs) (records_of f ys) t
