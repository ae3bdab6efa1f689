-- THE LOOPS OVER A TABLE, one law for all: the used places are the first n of the table, and each prints one line.
use mathlib.Core.Path.{◌≡◌, sym, ◌∙◌}
use mathlib.Core.List.{List}
use Prim.Native.Nat.{ℕ, ◌+◌, ◌*◌, ◌≤◌, ◌<◌}
use native.Mathlib.Omega.{arith}
use lib.ListN.{length, take, get_or}
use lib.Seq.{take_all}
use Rattle.text.specs.Put.{Put}
use Rattle.text.specs.Text.{texts, line_most}
use Rattle.text.proofs.Texts.{turn}

-- the first i places of a table of so many are printed
abbrev pub Printed : {A : Type 0} → (A → List ℕ) → List A → ℕ → ℕ → List ℕ → ℕ → ℕ → ℕ → List ℕ → Type 0
Printed f xs most n old start i at buf =
    (length xs ≡ most) × (i ≤ n) × (i ≤ most) × (at ≤ start + line_most * i) × Put old start (texts f (take i xs)) at buf

module _ {A : Type 0} (f : A → List ℕ) (d : A) (xs : List A) (most n : ℕ) {old : List ℕ} {start : ℕ} where
  pub one_more : (i : ℕ) {at r : ℕ} {buf new : List ℕ} → i < n → i < most → Printed f xs most n old start i at buf
      → Put buf at (f (get_or xs i d)) r new → r ≤ at + line_most → Printed f xs most n old start (i + 1) r new
  one_more i h k p q b = (p.0, omega arith, omega arith, omega (arith, p.3), turn f d xs i (omega (arith, p.0)) p.4 q)

  -- the count is reached
  pub all-used : (i : ℕ) {at : ℕ} {buf : List ℕ} → n ≤ i → Printed f xs most n old start i at buf
      → Put old start (texts f (take n xs)) at buf × (at ≤ start + line_most * most)
  all-used i h p =
      let e : i ≡ n = omega (arith, p.1) in
      (rw e at p.4, omega (arith, p.2, p.3))

  -- the table ends
  pub all-places : (i : ℕ) {at : ℕ} {buf : List ℕ} → most ≤ i → Printed f xs most n old start i at buf
      → Put old start (texts f (take n xs)) at buf × (at ≤ start + line_most * most)
  all-places i h p =
      let e : take i xs ≡ take n xs = take_all i xs (omega (arith, p.0)) ∙ sym (take_all n xs (omega (arith, p.0, p.1))) in
      (rw e at p.4, omega (arith, p.2, p.3))
