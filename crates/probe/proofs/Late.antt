-- A block of a revision's size: the fields that the revision lacks read as 0.
use Prim.Native.Nat.{ℕ, ◌+◌}
use mathlib.Core.Path.{◌≡◌, refl}
use mathlib.Core.List.{List}
use lib.ListN.{length, get_or, get_or-eq_default}
use native.Mathlib.Omega.{arith}
use Rattle.entities.specs.Revisions.{says_of}
use Rattle.entities.specs.declared.Revision.{Revision}
use Rattle.entities.specs.declared.Revision.TheVariants.{R10, R11, R15}
use Rattle.probe.specs.Fields.{probe_size, fields_of, kept_in}

-- what stands past the end reads as 0
past_end : (s : List ℕ) (n : ℕ) → length s ≡ n → (k : ℕ) → get_or s (n + k) 0 ≡ 0
past_end s n e k = get_or-eq_default s 0 (omega arith)

late-26 : (s : List ℕ) → length s ≡ 26 → fields_of s ≡ kept_in R10 (fields_of s)
unfolding fields_of kept_in
late-26 s e = let z = past_end s 26 e in rw (z 0, z 1, z 2, z 3, z 4, z 5, z 6, z 7, z 8, z 9, z 10, z 11, z 12, z 13, z 14, z 15, z 16, z 17, z 18, z 19, z 20, z 21)

late-34 : (s : List ℕ) → length s ≡ 34 → fields_of s ≡ kept_in R11 (fields_of s)
unfolding fields_of kept_in
late-34 s e = let z = past_end s 34 e in rw (z 0, z 1, z 2, z 3, z 4, z 5, z 6, z 7, z 8, z 9, z 10, z 11, z 12, z 13)

late-48 : (s : List ℕ) → fields_of s ≡ kept_in R15 (fields_of s)
unfolding kept_in
late-48 s = refl

pub fields-kept : (v : Revision) (s : List ℕ) → length s ≡ probe_size v → fields_of s ≡ kept_in v (fields_of s)
unfolding says_of
fields-kept R10 s e = late-26 s e
fields-kept R11 s e = late-34 s e
fields-kept R15 s e = late-48 s
