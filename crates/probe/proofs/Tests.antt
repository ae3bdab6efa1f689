-- What the tests of reading and writing say.
use Rattle.rules.specs.Verdicts.{accept, refuse}
use Prim.Native.Nat.{ℕ, ◌≤◌, ◌<◌}
use mathlib.Core.Path.{◌≡◌, refl, ◌∙◌}
use mathlib.Core.List.{List, ◌++◌}
use lib.ListN.{length, take, drop, length-take}
use lib.Seq.{take_all}
use native.Mathlib.Omega.{arith}
use borrow.Author.Tests.{eq-eqb, ne_eqb, lt-ltb, le-ltb}
use Rattle.rules.specs.IfElse.{if_else}
use Rattle.entities.specs.Revisions.{says_of}
use Rattle.entities.specs.declared.Revision.{Revision}
use Rattle.entities.specs.declared.Revision.TheVariants.{R10, R11, R15}
use Rattle.entities.specs.declared.Says.{Says}
use Rattle.probe.specs.Fields.{probe_size, fields_of, no_fields, bytes_of, probe_of, room_verdict, written}
use Rattle.probe.specs.declared.Probe.{Probe}
use Rattle.probe.specs.declared.Fields.{Fields}

pub read_whole : (v : Revision) (s : List ℕ) (p : Probe) → length s ≡ probe_size v → p ≡ fields_of s → ◌≡◌ {A = Fields} (record { verdict = accept; probe = p }) (probe_of v s)
unfolding probe_of if_else
read_whole v s p h e = rw (eq-eqb (length s) (probe_size v) h, e)

pub read-wrong : (v : Revision) (s : List ℕ) (p : Probe) → (length s ≡ probe_size v → ⊥) → p ≡ no_fields → ◌≡◌ {A = Fields} (record { verdict = refuse 41 0; probe = p }) (probe_of v s)
unfolding probe_of if_else
read-wrong v s p h e = rw (ne_eqb (length s) (probe_size v) h, e)

-- the fields have 48 bytes
pub bytes-length : (p : Probe) → length (bytes_of p) ≡ 48
unfolding bytes_of
bytes-length p = refl

-- what every revision says of the size
pub size-least : (v : Revision) → 26 ≤ probe_size v
unfolding says_of
size-least R10 = omega arith
size-least R11 = omega arith
size-least R15 = omega arith

pub size-most : (v : Revision) → probe_size v ≤ 48
unfolding says_of
size-most R10 = omega arith
size-most R11 = omega arith
size-most R15 = omega arith

pub size_is : (v : Revision) (y : Says) → y ≡ says_of v → (y.probe ≡ probe_size v) × (26 ≤ y.probe) × (y.probe ≤ 48)
size_is v y e = rw e (refl, size-least v, size-most v)

pub first-length : (v : Revision) (p : Probe) → length (take (probe_size v) (bytes_of p)) ≡ probe_size v
first-length v p = simp length-take (omega (arith, size-most v, bytes-length p))

pub write-short : (v : Revision) (p : Probe) (room : List ℕ) → length room < probe_size v → (refuse 41 0 ≡ room_verdict v room) × (room ≡ written v p room)
unfolding room_verdict written if_else
write-short v p room h = rw (lt-ltb (length room) (probe_size v) h) (refl, refl)

-- what is copied: the first so many of the fields' bytes
pub prefix-length : (p : Probe) (l : List ℕ) (n : ℕ) → l ≡ bytes_of p → n ≤ 48 → n ≡ length (take n l)
prefix-length p l n e h = rw e (simp length-take (omega (arith, bytes-length p)))

pub prefix-fits : (p : Probe) (l : List ℕ) (n m : ℕ) → l ≡ bytes_of p → n ≤ 48 → n ≤ m → length (take n l) ≤ m
prefix-fits p l n m e h k = let q = prefix-length p l n e h in omega arith

pub copied : (v : Revision) (p : Probe) (room l block : List ℕ) (size n : ℕ) → block ≡ bytes_of p → size ≡ probe_size v → n ≡ length (take size block) → l ≡ take n (take size block) ++ drop n room
    → l ≡ take (probe_size v) (bytes_of p) ++ drop (probe_size v) room
copied v p room l block size n e z m h =
    let k : n ≡ probe_size v = m ∙ (rw (e, z) (first-length v p)) in
    let q : take (probe_size v) (take (probe_size v) (bytes_of p)) ≡ take (probe_size v) (bytes_of p) = take_all (probe_size v) (take (probe_size v) (bytes_of p)) (omega (arith, first-length v p)) in
    h ∙ (rw (k, e, z, q))

pub write-whole : (v : Revision) (p : Probe) (room l : List ℕ) → probe_size v ≤ length room → l ≡ take (probe_size v) (bytes_of p) ++ drop (probe_size v) room → (accept ≡ room_verdict v room) × (l ≡ written v p room)
unfolding room_verdict written if_else
write-whole v p room l h e = rw (le-ltb (length room) (probe_size v) h) (refl, e)
