-- Each promise leaves one answer: the reader, the count, the lent bytes, and of the piece the bytes that wait.
use Rattle.std.proofs.Common.{◌≡◌, ℕ, ◌*◌, List, length, take, drop, sym, ap, ◌∙◌, arith, length-append, take_at, drop_at}
use Rattle.text.specs.Put.{Put}
use Rattle.text.proofs.Puts.{put-unique}
use Rattle.cuts.specs.Cuts.{cut_of, After}
use Rattle.convert.specs.declared.Reader.{Reader}
use Rattle.convert.specs.Inner.{new_reader, So, over, Fed, Ended}

pub new-unique : (r s : Reader) → r ≡ new_reader → s ≡ new_reader → r ≡ s
new-unique r s e f = e ∙ sym f

-- the whole records and what is left over are those of the bytes
module _ (a : So) (bytes : List ℕ) (x y : So) (j k : ℕ) (p q : List ℕ) (u : After 64 over a bytes x j p) (v : After 64 over a bytes y k q) where
  many-same : u.many * 64 ≡ v.many * 64
  many-same =
      omega
      (arith, ap length u.all, ap length v.all, length-append u.whole u.left, length-append v.whole v.left, u.full, v.full, u.short, v.short)

  abbrev m : ℕ
  m = u.many * 64

  whole_same : u.whole ≡ v.whole
  whole_same =
      sym (take_at u.whole u.left m u.full) ∙ ap (λ (l : List ℕ). take m l) (sym u.all ∙ v.all)
      ∙ take_at v.whole v.left m (v.full ∙ sym many-same)

  left-same : u.left ≡ v.left
  left-same =
      sym (drop_at u.whole u.left m u.full) ∙ ap (λ (l : List ℕ). drop m l) (sym u.all ∙ v.all)
      ∙ drop_at v.whole v.left m (v.full ∙ sym many-same)

  pub after-unique : (x ≡ y) × ((j ≡ k) × (take j p ≡ take k q))
  after-unique =
      (u.read ∙ ap (λ (l : List ℕ). over a (cut_of 64 l)) whole_same ∙ sym v.read, (u.have₀ ∙ ap length left-same ∙ sym v.have₀, u.kept ∙ left-same ∙ sym v.kept))

readers : (r s : Reader) → r.converter ≡ s.converter → r.have ≡ s.have → r ≡ s
readers r s e f = λ i. record { converter = e i; have = f i }

put_same : {old new₁ new₂ s t : List ℕ} {w₁ w₂ : ℕ} → s ≡ t → Put old 0 s w₁ new₁ → Put old 0 t w₂ new₂ → (w₁ ≡ w₂) × (new₁ ≡ new₂)
put_same e p q = put-unique (rw e at (p)) q

module _ (r : Reader) (piece input old : List ℕ) (r₁ r₂ : Reader) (w₁ w₂ : ℕ) (p₁ p₂ n₁ n₂ : List ℕ) where
  pub feed-unique : Fed r piece input old r₁ w₁ p₁ n₁ → Fed r piece input old r₂ w₂ p₂ n₂ → (r₁ ≡ r₂) × ((take r₁.have p₁ ≡ take r₂.have p₂) × ((w₁ ≡ w₂) × (n₁ ≡ n₂)))
  feed-unique u v =
      let s = after-unique _ _ _ _ _ _ _ _ u.after v.after in
      (readers r₁ r₂ (ap (λ (z : So). z.converter) s.0) s.1.0, (s.1.1, put_same (ap (λ (z : So). z.written) s.0) u.put v.put))

  pub last-unique : Ended r piece old r₁ w₁ n₁ → Ended r piece old r₂ w₂ n₂ → (r₁ ≡ r₂) × ((w₁ ≡ w₂) × (n₁ ≡ n₂))
  last-unique u v = (readers r₁ r₂ (u.converter ∙ sym v.converter) (u.none ∙ sym v.none), put-unique u.put v.put)
