-- The transfers of a frame: their data is the frame, every one but the last is full, and there is one.
use Rattle.std.specs.Prelude.{None, Some}
use Rattle.session_rules.specs.Options.{Stamp}
use Prim.Native.Nat.{ℕ, zero, suc, ◌+◌, ◌-◌, ◌≤◌, min}
use mathlib.Core.Path.{◌≡◌, refl, ap, ◌∙◌}
use mathlib.Core.Bool.{Bool}
use mathlib.Core.List.{List, [], ◌∷◌, ◌++◌}
use native.Mathlib.Omega.{arith}
use lib.ListN.{length, take, drop, length-append, length-take, length-drop, take-append-drop}
use lib.Seq.{length-take-le}
use Rattle.sender.specs.Header.{size_of, written}
use Rattle.sender.specs.Transfers.{is_nil, cut_by, Full, data_in}
use Rattle.sender.proofs.Writing.{header-length}

strip : (fid eof : Bool) (s : Stamp) (d : List ℕ) → drop (size_of s) (written fid eof s ++ d) ≡ d
strip fid eof None d = refl
strip fid eof (Some x) d = refl

-- the data is the frame's, in order
pub cut-data : (k p : ℕ) (fid : Bool) (s : Stamp) (l : List ℕ) → length l ≤ k → 1 ≤ p → data_in (size_of s) (cut_by k p fid s l) ≡ l
cut-data zero p fid s [] h g = refl
cut-data zero p fid s (x ∷ l) h g = absurd (omega arith)
cut-data (suc k) p fid s [] h g = refl
cut-data (suc k) p fid s (x ∷ l) h g =
    let e : length (drop p (x ∷ l)) ≡ length (x ∷ l) - p = length-drop p (x ∷ l) in
    ap (λ (m : List ℕ). m ++ data_in (size_of s) (cut_by k p fid s (drop p (x ∷ l)))) (strip fid (is_nil (drop p (x ∷ l))) s (take p (x ∷ l)))
    ∙ ap (λ (m : List ℕ). take p (x ∷ l) ++ m) (cut-data k p fid s (drop p (x ∷ l)) (omega arith) g)
    ∙ take-append-drop p (x ∷ l)

pub part_length : (fid eof : Bool) (s : Stamp) (p : ℕ) (l : List ℕ) → length (written fid eof s ++ take p l) ≡ size_of s + length (take p l)
part_length fid eof s p l = length-append (written fid eof s) (take p l) ∙ ap (λ (n : ℕ). n + length (take p l)) (header-length fid eof s)

-- every transfer but the last is full
pub cut-full : (k p : ℕ) (fid : Bool) (s : Stamp) (l : List ℕ) → Full (size_of s + p) (cut_by k p fid s l)
cut-full zero p fid s l = tt
cut-full (suc k) p fid s [] = tt
cut-full (suc k) p fid s (x ∷ l) = go k (drop p (x ∷ l)) refl (cut-full k p fid s (drop p (x ∷ l)))
  where
    t : List ℕ
    t = written fid (is_nil (drop p (x ∷ l))) s ++ take p (x ∷ l)

    short : length t ≤ size_of s + p
    short =
        let e : length t ≡ size_of s + length (take p (x ∷ l)) = part_length fid (is_nil (drop p (x ∷ l))) s p (x ∷ l) in
        let f : length (take p (x ∷ l)) ≡ min p (length (x ∷ l)) = length-take p (x ∷ l) in
        omega arith

    go : (j : ℕ) (m : List ℕ) → drop p (x ∷ l) ≡ m → Full (size_of s + p) (cut_by j p fid s m) → Full (size_of s + p) (t ∷ cut_by j p fid s m)
    go zero m e f = short
    go (suc j) [] e f = short
    go (suc j) (y ∷ m) e f =
        let a : length (drop p (x ∷ l)) ≡ length (x ∷ l) - p = length-drop p (x ∷ l) in
        let b : length (drop p (x ∷ l)) ≡ length (y ∷ m) = ap length e in
        let c : length (take p (x ∷ l)) ≡ p = length-take-le p (x ∷ l) (omega arith) in
        let d : length t ≡ size_of s + length (take p (x ∷ l)) = part_length fid (is_nil (drop p (x ∷ l))) s p (x ∷ l) in
        (omega arith, f)
