-- The ledger in its forty places: its numbers in front, and zeros behind them.
use Rattle.std.proofs.Common.{◌≡◌, refl, length, ℕ, ◌+◌, List, [], ◌++◌, take, drop, replicate, ap, ◌∙◌, arith}
use Rattle.std.proofs.lemmas.List.{take-append-le}
use Rattle.std.proofs.lemmas.List.Edits.{paste_all}
use Rattle.std.proofs.lemmas.Slice.{put_mid-paste}
use Rattle.rules.proofs.Lists.{no-elements}
use lib.Seq.{take_all}
use lib.ListN.{length-drop, length-take, length-append}
use borrow.Rule.Slice.PartMut.{put_mid}
use Rattle.host_session.specs.Calls.{places_of}

pub laid : (numbers a to z : List ℕ) → a ≡ numbers → length numbers ≡ 31 → length to ≡ 40 → z ≡ replicate (length (take 9 (drop 31 (a ++ drop 31 to)))) 0
    → put_mid 31 9 (a ++ drop 31 to) z ≡ places_of numbers
laid numbers a to z e n m f =
    let size : length a ≡ 31 = ap (λ (l : List ℕ). length l) e ∙ n in
    let long : length (a ++ drop 31 to) ≡ 40 = length-append a (drop 31 to) ∙ simp length-drop (omega (arith, size, m)) in
    let nine : length (take 9 (drop 31 (a ++ drop 31 to))) ≡ 9 = simp (length-take, length-drop) (omega (arith, long)) in
    let zeros : z ≡ replicate 9 0 = f ∙ ap (λ (k : ℕ). replicate k 0) nine in
    let front : take 31 (a ++ drop 31 to) ≡ numbers = take-append-le 31 a (drop 31 to) (omega (arith, size)) ∙ take_all 31 a (omega (arith, size)) ∙ e in
    let gone : drop (31 + 9) (a ++ drop 31 to) ≡ [] = no-elements (drop (31 + 9) (a ++ drop 31 to)) (length-drop (31 + 9) (a ++ drop 31 to) ∙ omega (arith, long)) in
    put_mid-paste 31 9 (a ++ drop 31 to) z (replicate 9 0) 9 zeros refl refl ∙ paste_all (a ++ drop 31 to) 31 (replicate 9 0) 9 refl ∙ rw (front, gone) refl
