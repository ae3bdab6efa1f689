-- A record is laid out place by place: the numbers first, and zeros in the places of the rest.
use Rattle.std.specs.Int.{w64, to_le_bytes}
use Prim.Native.Nat.{ℕ, ◌+◌, ◌-◌, ◌*◌, ◌/◌, ◌≤◌, ◌<◌}
use mathlib.Core.Path.{◌≡◌, refl, sym, ap, ◌∙◌}
use mathlib.Core.List.{List, [], ◌∷◌, ◌++◌, append_assoc, append-nil}
use native.Mathlib.Numerals.{add-one}
use native.Mathlib.Omega.{arith}
use lib.ListN.{length, get_or, take, drop, replicate, drop_of_length-le}
use lib.Seq.{paste, take-suc, take_all, take_at, drop-drop, length-take-le, length-paste, drop-append-add}
use Rattle.rules.specs.Pad.{pad}
use Rattle.rules.proofs.Padded.{pad-at, pad-length}
use Rattle.places.specs.Places.{little_of, eights, record_of}

pub eights-length : (ns : List ℕ) → length (eights ns) ≡ 8 * length ns
eights-length [] = refl
eights-length (n ∷ ns) = let e : length (eights ns) ≡ 8 * length ns = eights-length ns in omega arith

eights-append : (ns ms : List ℕ) → eights (ns ++ ms) ≡ eights ns ++ eights ms
eights-append [] ms = refl
eights-append (n ∷ ns) ms = ap (λ (l : List ℕ). little_of 8 n ++ l) (eights-append ns ms) ∙ sym (append_assoc (little_of 8 n) (eights ns) (eights ms))

-- the library's bytes of a number are these
le-little : (n : ℕ) → to_le_bytes w64 n ≡ little_of 8 n
le-little n =
    let f2 : n / 256 / 256 ≡ n / 65536 = omega arith in
    let f3 : n / 65536 / 256 ≡ n / 16777216 = omega arith in
    let f4 : n / 16777216 / 256 ≡ n / 4294967296 = omega arith in
    let f5 : n / 4294967296 / 256 ≡ n / 1099511627776 = omega arith in
    let f6 : n / 1099511627776 / 256 ≡ n / 281474976710656 = omega arith in
    let f7 : n / 281474976710656 / 256 ≡ n / 72057594037927936 = omega arith in
    rw (f2, f3, f4, f5, f6, f7)

-- the forty numbers that a ledger's numbers make
abbrev pub forty : List ℕ → List ℕ
forty ns = pad 40 0 ns

-- the first k of them lie in the record r, and behind them is what lay there before
abbrev pub Laid : List ℕ → List ℕ → ℕ → List ℕ → Type 0
Laid r₀ ns k r = (k ≤ 40) × (length r₀ ≡ 320) × (length ns ≡ 31) × (length r ≡ 320) × (r ≡ eights (take k (forty ns)) ++ drop (8 * k) r₀)

pub none-laid : (r ns : List ℕ) → length r ≡ 320 → length ns ≡ 31 → Laid r ns 0 r
none-laid r ns h l = (omega arith, h, l, h, refl)

front : (ns : List ℕ) (k : ℕ) → k ≤ 40 → length ns ≡ 31 → length (eights (take k (forty ns))) ≡ 8 * k
front ns k h l = eights-length (take k (forty ns)) ∙ ap (λ (m : ℕ). 8 * m) (length-take-le k (forty ns) (let e : length (forty ns) ≡ 40 = pad-length 40 0 ns (omega arith) in omega arith))

module _ (r₀ ns : List ℕ) (k : ℕ) (r : List ℕ) where
  laid_more : (n : ℕ) → k < 40 → Laid r₀ ns k r → n ≡ get_or ns k 0 → Laid r₀ ns (k + 1) (paste r (8 * k) (little_of 8 n) 8)
  laid_more n h p e =
      let q : List ℕ = eights (take k (forty ns)) in
      let f : length q ≡ 8 * k = front ns k p.0 p.2 in
      let w : length (forty ns) ≡ 40 = pad-length 40 0 ns (omega (arith, p.2)) in
      let x : 8 * k + 8 ≡ 8 * (k + 1) = omega arith in
      let a : take (8 * k) r ≡ q = ap (take (8 * k)) p.4 ∙ take_at q (drop (8 * k) r₀) (8 * k) f in
      let b : drop (8 * k + 8) r ≡ drop (8 * (k + 1)) r₀
      = ap (drop (8 * k + 8)) p.4 ∙ ap (λ (m : ℕ). drop (m + 8) (q ++ drop (8 * k) r₀)) (sym f) ∙ drop-append-add q (drop (8 * k) r₀) 8 ∙ drop-drop 8 (8 * k) r₀ ∙ ap (λ (m : ℕ). drop m r₀) x in
      let g : get_or (forty ns) k 0 ≡ n = pad-at 40 0 ns k ∙ sym e in
      let t : take (k + 1) (forty ns) ≡ take k (forty ns) ++ (n ∷ [])
      = ap (λ (m : ℕ). take m (forty ns)) (add-one k) ∙ take-suc (forty ns) k 0 (omega arith) ∙ ap (λ (m : ℕ). take k (forty ns) ++ (m ∷ [])) g in
      let u : eights (take (k + 1) (forty ns)) ≡ q ++ little_of 8 n
      = ap eights t ∙ eights-append (take k (forty ns)) (n ∷ []) ∙ ap (λ (l : List ℕ). q ++ l) (append-nil (little_of 8 n)) in
      (omega arith, p.1, p.2, length-paste r (8 * k) (little_of 8 n) 8 (omega (arith, p.3)) (omega arith) ∙ p.3, (λ i. a i ++ little_of 8 n ++ b i) ∙ ap (λ (l : List ℕ). l ++ drop (8 * (k + 1)) r₀) (sym u))

  pub one-laid : (n : ℕ) (b new : List ℕ) → k < 40 → Laid r₀ ns k r → n ≡ get_or ns k 0 → b ≡ to_le_bytes w64 n → new ≡ paste r (8 * k) b (length b) → Laid r₀ ns (k + 1) new
  one-laid n b new h p e f g = let w : b ≡ little_of 8 n = f ∙ le-little n in rw (g, w) (laid_more n h p e)

  pub all_laid : 40 ≤ k → Laid r₀ ns k r → r ≡ record_of ns
  unfolding record_of
  all_laid h p =
      let e : k ≡ 40 = omega (arith, p.0) in
      let l : length ns ≡ 31 = p.2 in
      let w : length (forty ns) ≡ 40 = pad-length 40 0 ns (omega arith) in
      let d : drop (8 * k) r₀ ≡ [] = drop_of_length-le r₀ {i = 8 * k} (omega (arith, p.1)) in
      let t : take k (forty ns) ≡ forty ns = take_all k (forty ns) (omega arith) in
      p.4 ∙ (λ i. eights (t i) ++ d i) ∙ append-nil (eights (forty ns)) ∙ eights-append ns (replicate (40 - length ns) 0)
      ∙ ap (λ (m : ℕ). eights ns ++ eights (replicate (40 - m) 0)) l ∙ ap (λ (m : ℕ). eights ns ++ replicate (320 - 8 * m) 0) (sym l)
