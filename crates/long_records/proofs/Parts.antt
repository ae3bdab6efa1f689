-- Zeros that are put, and the parts of a record, one after the other.
use Prim.Native.Nat.{ℕ, ◌+◌, ◌-◌, ◌/◌, ◌%◌, ◌≤◌}
use mathlib.Core.Path.{◌≡◌, sym, ap, subst, ◌∙◌}
use mathlib.Core.List.{List, [], ◌∷◌, ◌++◌}
use native.Mathlib.Omega.{arith}
use lib.ListN.{length, replicate, length-replicate}
use lib.Seq.{paste, length-paste}
use Rattle.text.specs.Put.{Put}
use Rattle.text.proofs.Puts.{then}
use Rattle.long_records.specs.Long.{long_of, data_most}

abbrev pub zeros : ℕ → List ℕ
zeros n = replicate n 0

-- zeros that were cleared are put
put-zeros : (old new : List ℕ) (at n : ℕ) → at + n ≤ length old → new ≡ paste old at (zeros n) n → Put old at (zeros n) (at + n) new
put-zeros old new at n h e =
    let l : length (zeros n) ≡ n = length-replicate {A = ℕ} n 0 in
    record {
      next = omega (arith, l);
      fits = h;
      bytes = e ∙ ap (paste old at (zeros n)) (sym l);
      size = ap length e ∙ length-paste old at (zeros n) n h (omega (arith, l));
    }

-- head, bytes and fill
pub record-put : {old mid told new load : List ℕ} {at m r kind n : ℕ} → n ≡ length load → n ≤ data_most → r + (data_most - n) ≤ length told
    → Put old at (kind ∷ 0 ∷ n % 256 ∷ n / 256 ∷ []) m mid → Put mid m load r told → new ≡ paste told r (zeros (data_most - n)) (data_most - n)
    → Put old at (long_of kind load) (r + (data_most - n)) new
record-put {old} {mid} {told} {new} {load} {at} {m} {r} {kind} {n} e small fits p q z =
    subst (λ (k : ℕ). Put old at (kind ∷ 0 ∷ k % 256 ∷ k / 256 ∷ (load ++ zeros (data_most - k))) (r + (data_most - n)) new) e
    (then p (then q (put-zeros told new r (data_most - n) fits z)))
