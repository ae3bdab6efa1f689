-- THE HEADER LAW: what a sender writes, the receiver reads, whatever data comes behind it, within the payload size.
use Rattle.std.specs.Prelude.{None, Some}
use Rattle.session_rules.specs.Options.{Stamp}
use Prim.Native.Nat.{ℕ, suc, ◌+◌, ◌*◌, ◌/◌, ◌%◌, ◌^◌, ◌≤◌, ◌<◌}
use mathlib.Core.Path.{◌≡◌, refl, sym, ap, ◌∙◌}
use mathlib.Core.Bool.{Bool, true, false, not}
use mathlib.Core.List.{List, ◌∷◌, ◌++◌}
use native.Mathlib.Omega.{arith}
use native.Mathlib.Nat.{mod-eq_of_lt, div-add-mod', div-div-eq-div-mul}
use lib.ListN.{length, drop}
use lib.Dec.{ltb}
use borrow.Author.Tests.{le-ltb, ne_eqb}
use Rattle.rules.specs.IfElse.{if_else}
use Rattle.sizes.specs.declared.Opening.{Opening}
use Rattle.sizes.specs.declared.HeaderKind.TheVariants.{Old}
use Rattle.rules.specs.Numbered.{Row, first_row, NoneOf}
use Rattle.rules.proofs.Rows.{none_row}
use Rattle.session_rules.specs.declared.Header.{Header}
use Rattle.session_rules.specs.declared.Reading.TheVariants.{Readable}
use Rattle.session_rules.specs.Transfer.{flag_of, sorted, reading_of}
use Rattle.session_rules.specs.OldKind.{old_need, old_rules, old_header, old_reading}
use Rattle.session_rules.proofs.OldKind.{old-kind}
use Rattle.sender.specs.Header.{size_of, written, meant, Stamped}

four-back : (x : ℕ) → x < 2 ^ 32 → x % 256 + x / 256 % 256 * 256 + (x / 65536 % 256 + x / 16777216 % 256 * 256) * 65536 ≡ x
four-back x h =
    let y : x / 65536 ≡ x / 256 / 256 = sym (div-div-eq-div-mul x 256 256) in
    let z : x / 16777216 ≡ x / 256 / 256 / 256 = sym (ap (λ (k : ℕ). k / 256) (div-div-eq-div-mul x 256 256) ∙ div-div-eq-div-mul x 65536 256) in
    let w : x / 16777216 < 256 = omega arith in
    let m : x / 16777216 % 256 ≡ x / 16777216 = mod-eq_of_lt w in
    omega (arith, div-add-mod' x 256, div-add-mod' (x / 256) 256, div-add-mod' (x / 256 / 256) 256)

-- no rule is broken
none-readable : (rows : List Row) (h : Header) → NoneOf rows → sorted (first_row rows) h ≡ Readable h
none-readable rows h n = rw (none_row rows n)

-- a transfer of two bytes or more whose header is of n bytes, with these flags
reads : (payload n x : ℕ) (d : List ℕ) → 2 ≤ n → n ≤ suc (suc (length d)) → suc (suc (length d)) ≤ payload → ltb n (old_need x) ≡ false → not (flag_of x 7) ≡ false
    → old_reading payload (n ∷ x ∷ d) ≡ Readable (old_header (n ∷ x ∷ d))
reads payload n x d l m k e f =
    none-readable (old_rules payload (n ∷ x ∷ d)) (old_header (n ∷ x ∷ d))
    (ne_eqb (suc (suc (length d))) 1 (λ z. omega arith), (le-ltb payload (suc (suc (length d))) k, (le-ltb n 2 l, (le-ltb (suc (suc (length d))) n m, (e, (f, tt))))))

bare : (payload : ℕ) (fid eof : Bool) (d : List ℕ) → suc (suc (length d)) ≤ payload → old_reading payload (written fid eof None ++ d) ≡ Readable (meant fid eof None)
unfolding flag_of if_else
bare payload true true d k = reads payload 2 131 d (omega arith) (omega arith) k refl refl
bare payload true false d k = reads payload 2 129 d (omega arith) (omega arith) k refl refl
bare payload false true d k = reads payload 2 130 d (omega arith) (omega arith) k refl refl
bare payload false false d k = reads payload 2 128 d (omega arith) (omega arith) k refl refl

abbrev stamp_bytes : ℕ → List ℕ → List ℕ
stamp_bytes x d = x % 256 ∷ x / 256 % 256 ∷ x / 65536 % 256 ∷ x / 16777216 % 256 ∷ d

with-stamp : (fid eof : Bool) (n x : ℕ) → n ≡ x → Readable (meant fid eof (Some n)) ≡ Readable (record { len = 6; fid = fid; eof = eof; still = false; error = false; stamp = Some x; layer = None })
with-stamp fid eof n x e = ap (λ (m : ℕ). Readable (meant fid eof (Some m))) e

timed : (payload : ℕ) (fid eof : Bool) (x : ℕ) (d : List ℕ) → x < 2 ^ 32 → suc (suc (suc (suc (suc (suc (length d)))))) ≤ payload → old_reading payload (written fid eof (Some x) ++ d) ≡ Readable (meant fid eof (Some x))
unfolding flag_of if_else
timed payload true true x d b k = reads payload 6 135 (stamp_bytes x d) (omega arith) (omega arith) k refl refl ∙ with-stamp true true _ x (four-back x b)
timed payload true false x d b k = reads payload 6 133 (stamp_bytes x d) (omega arith) (omega arith) k refl refl ∙ with-stamp true false _ x (four-back x b)
timed payload false true x d b k = reads payload 6 134 (stamp_bytes x d) (omega arith) (omega arith) k refl refl ∙ with-stamp false true _ x (four-back x b)
timed payload false false x d b k = reads payload 6 132 (stamp_bytes x d) (omega arith) (omega arith) k refl refl ∙ with-stamp false false _ x (four-back x b)

written-reading : (payload : ℕ) (fid eof : Bool) (s : Stamp) (d : List ℕ) → Stamped s → size_of s + length d ≤ payload → old_reading payload (written fid eof s ++ d) ≡ Readable (meant fid eof s)
written-reading payload fid eof None d b k = bare payload fid eof d (omega arith)
written-reading payload fid eof (Some x) d b k = timed payload fid eof x d b (omega arith)

-- READ BACK
pub reads-back : (o : Opening) (fid eof : Bool) (s : Stamp) (d : List ℕ) → o.kind ≡ Old → Stamped s → size_of s + length d ≤ o.payload → reading_of o (written fid eof s ++ d) ≡ Readable (meant fid eof s)
reads-back o fid eof s d e b k = (old-kind o e).reading (written fid eof s ++ d) ∙ written-reading o.payload fid eof s d b k

-- and its data is what stands behind it
pub data-back : (fid eof : Bool) (s : Stamp) (d : List ℕ) → drop (meant fid eof s).len (written fid eof s ++ d) ≡ d
data-back fid eof None d = refl
data-back fid eof (Some x) d = refl
