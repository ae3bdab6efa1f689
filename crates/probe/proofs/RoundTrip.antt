-- Over the revision: reading what was written gives the fields back, with those that the revision lacks as 0, and writing what was read gives the block's bytes
-- back. A refused write changes no byte, and no byte past the revision's block ever changes.
use Rattle.rules.specs.Verdicts.{accept, refuse}
use Prim.Native.Nat.{ℕ, zero, suc, ◌+◌, ◌*◌, ◌/◌, ◌%◌, ◌^◌, ◌≤◌, ◌<◌}
use mathlib.Core.Path.{◌≡◌, refl, sym, ap, ◌∙◌}
use mathlib.Core.List.{List, ◌++◌}
use mathlib.Core.Bool.{Bool, true, false}
use lib.ListN.{length, get_or, take, drop, length-drop}
use lib.Seq.{drop-cons, take_at, drop_at}
use lib.Dec.{ltb}
use borrow.Author.Tests.{lt-ltb, le-ltb, ltb-true, ltb-false}
use native.Mathlib.Omega.{arith}
use native.Mathlib.Nat.{mod-eq_of_lt, div-eq_of_lt, div-add-mod', add-mul-div_right, add-mul-mod_self_right, div-div-eq-div-mul}
use native.Mathlib.Numerals.{add-one}
use Rattle.rules.specs.IfElse.{if_else}
use Rattle.rules.proofs.Lists.{no-elements}
use Rattle.rules.proofs.Verdicts.{apart}
use Rattle.entities.specs.Revisions.{says_of}
use Rattle.entities.specs.declared.Revision.{Revision}
use Rattle.entities.specs.declared.Revision.TheVariants.{R10, R11, R15}
use Rattle.probe.specs.Fields.{probe_size, bytes_at, fields_of, bytes_of, kept_in, probe_of, room_verdict, written, Held, AllBytes, WritesBack, ReadsBack}
use Rattle.probe.specs.declared.Probe.{Probe}
use Rattle.probe.proofs.Tests.{first-length, read_whole}

-- ---- numbers and their bytes
low : (a b : ℕ) → a < 256 → (a + b * 256) % 256 ≡ a
low a b h = add-mul-mod_self_right a b 256 ∙ mod-eq_of_lt h

rest : (a b : ℕ) → a < 256 → (a + b * 256) / 256 ≡ b
rest a b h = let e : a / 256 ≡ 0 = div-eq_of_lt h in add-mul-div_right a b {z = 256} (omega arith) ∙ (rw e (omega arith))

two_back : (x : ℕ) → x < 2 ^ 16 → x % 256 + x / 256 % 256 * 256 ≡ x
two_back x h = omega arith

four-back : (x : ℕ) → x < 2 ^ 32 → x % 256 + x / 256 % 256 * 256 + (x / 65536 % 256 + x / 16777216 % 256 * 256) * 65536 ≡ x
four-back x h =
    let y : x / 65536 ≡ x / 256 / 256 = sym (div-div-eq-div-mul x 256 256) in
    let z : x / 16777216 ≡ x / 256 / 256 / 256 = sym (ap (λ (k : ℕ). k / 256) (div-div-eq-div-mul x 256 256) ∙ div-div-eq-div-mul x 65536 256) in
    let w : x / 16777216 < 256 = omega arith in
    let m : x / 16777216 % 256 ≡ x / 16777216 = mod-eq_of_lt w in
    omega (arith, div-add-mod' x 256, div-add-mod' (x / 256) 256, div-add-mod' (x / 256 / 256) 256)

high : (a b : ℕ) → a < 256 → b < 256 → (a + b * 256) / 256 % 256 ≡ b
high a b h k = rw (rest a b h, mod-eq_of_lt k)

-- a number of four bytes, and its bytes
pub record Four (n a b c d : ℕ) : Type 0 where
  pub byte-0 : n % 256 ≡ a
  pub byte-1 : n / 256 % 256 ≡ b
  pub byte-2 : n / 65536 % 256 ≡ c
  pub byte-3 : n / 16777216 % 256 ≡ d

four_bytes : (a b c d : ℕ) → a < 256 → b < 256 → c < 256 → d < 256 → Four (a + b * 256 + (c + d * 256) * 65536) a b c d
four_bytes a b c d h k l m =
    let x : a + b * 256 + (c + d * 256) * 65536 ≡ a + (b + (c + d * 256) * 256) * 256 = omega arith in
    rw x (go (a + (b + (c + d * 256) * 256) * 256) (low a (b + (c + d * 256) * 256) h) (rest a (b + (c + d * 256) * 256) h))
  where
    go : (n : ℕ) → n % 256 ≡ a → n / 256 ≡ b + (c + d * 256) * 256 → Four n a b c d
    go n e f =
        let y : n / 65536 ≡ c + d * 256 = sym (div-div-eq-div-mul n 256 256) ∙ (rw f (rest b (c + d * 256) k)) in
        let z : n / 16777216 ≡ d = sym (div-div-eq-div-mul n 65536 256) ∙ (rw y (rest c d l)) in
        record { byte-0 = e; byte-1 = rw f (low b (c + d * 256) k); byte-2 = rw y (low c d l); byte-3 = rw z (mod-eq_of_lt m) }

-- ---- a list and its bytes
bytes_drop : (s : List ℕ) (o n : ℕ) → o + n ≡ length s → bytes_at s o n ≡ drop o s
bytes_drop s o zero e = sym (no-elements (drop o s) (simp length-drop (omega arith)))
bytes_drop s o (suc n) e = rw (drop-cons s o 0 (omega arith), ← add-one o, bytes_drop s (o + 1) n (omega arith))

pub bytes-all : (s : List ℕ) (n : ℕ) → length s ≡ n → bytes_at s 0 n ≡ s
bytes-all s n e = bytes_drop s 0 n (omega arith)

-- ---- fields to bytes to fields
pub fields_back : (v : Revision) (p : Probe) → Held p → fields_of (take (probe_size v) (bytes_of p)) ≡ kept_in v p
unfolding says_of fields_of bytes_of kept_in
fields_back R10 p h = rw (two_back p.hint h.hint, four-back p.interval h.interval, two_back p.key_rate h.key_rate, two_back p.p_rate h.p_rate, two_back p.quality h.quality, two_back p.window h.window, two_back p.delay h.delay, four-back p.frame_size h.frame_size, four-back p.payload_size h.payload_size)
fields_back R11 p h = rw (two_back p.hint h.hint, four-back p.interval h.interval, two_back p.key_rate h.key_rate, two_back p.p_rate h.p_rate, two_back p.quality h.quality, two_back p.window h.window, two_back p.delay h.delay, four-back p.frame_size h.frame_size, four-back p.payload_size h.payload_size, four-back p.clock h.clock)
fields_back R15 p h = rw (two_back p.hint h.hint, four-back p.interval h.interval, two_back p.key_rate h.key_rate, two_back p.p_rate h.p_rate, two_back p.quality h.quality, two_back p.window h.window, two_back p.delay h.delay, four-back p.frame_size h.frame_size, four-back p.payload_size h.payload_size, four-back p.clock h.clock, two_back p.rate_modes h.rate_modes, bytes-all p.layout 8 h.layout)

-- ---- bytes to fields to bytes
pub bytes_back : (s : List ℕ) → AllBytes s → bytes_of (fields_of s) ≡ bytes_at s 0 48
unfolding fields_of bytes_of
bytes_back s h =
    let q4 = four_bytes (get_or s 4 0) (get_or s 5 0) (get_or s 6 0) (get_or s 7 0) (h 4) (h 5) (h 6) (h 7) in
    let q18 = four_bytes (get_or s 18 0) (get_or s 19 0) (get_or s 20 0) (get_or s 21 0) (h 18) (h 19) (h 20) (h 21) in
    let q22 = four_bytes (get_or s 22 0) (get_or s 23 0) (get_or s 24 0) (get_or s 25 0) (h 22) (h 23) (h 24) (h 25) in
    let q26 = four_bytes (get_or s 26 0) (get_or s 27 0) (get_or s 28 0) (get_or s 29 0) (h 26) (h 27) (h 28) (h 29) in
    rw (low (get_or s 0 0) (get_or s 1 0) (h 0), high (get_or s 0 0) (get_or s 1 0) (h 0) (h 1), q4.byte-0, q4.byte-1, q4.byte-2, q4.byte-3, low (get_or s 8 0) (get_or s 9 0) (h 8), high (get_or s 8 0) (get_or s 9 0) (h 8) (h 9), low (get_or s 10 0) (get_or s 11 0) (h 10), high (get_or s 10 0) (get_or s 11 0) (h 10) (h 11), low (get_or s 12 0) (get_or s 13 0) (h 12), high (get_or s 12 0) (get_or s 13 0) (h 12) (h 13), low (get_or s 14 0) (get_or s 15 0) (h 14), high (get_or s 14 0) (get_or s 15 0) (h 14) (h 15), low (get_or s 16 0) (get_or s 17 0) (h 16), high (get_or s 16 0) (get_or s 17 0) (h 16) (h 17), q18.byte-0, q18.byte-1, q18.byte-2, q18.byte-3, q22.byte-0, q22.byte-1, q22.byte-2, q22.byte-3, q26.byte-0, q26.byte-1, q26.byte-2, q26.byte-3, low (get_or s 38 0) (get_or s 39 0) (h 38), high (get_or s 38 0) (get_or s 39 0) (h 38) (h 39))

-- the first so many of them
first-bytes : (v : Revision) (s : List ℕ) → take (probe_size v) (bytes_at s 0 48) ≡ bytes_at s 0 (probe_size v)
unfolding says_of
first-bytes R10 s = refl
first-bytes R11 s = refl
first-bytes R15 s = refl

module _ (v : Revision) (p : Probe) (room : List ℕ) where
  whole_is : probe_size v ≤ length room → written v p room ≡ take (probe_size v) (bytes_of p) ++ drop (probe_size v) room
  unfolding written if_else
  whole_is h = rw (le-ltb (length room) (probe_size v) h)

  short-is : length room < probe_size v → written v p room ≡ room
  unfolding written if_else
  short-is h = rw (lt-ltb (length room) (probe_size v) h)

  -- a refused write changes no byte
  pub refused-keeps : (k o : ℕ) → room_verdict v room ≡ refuse k o → written v p room ≡ room
  unfolding room_verdict if_else
  refused-keeps k o e = go (ltb (length room) (probe_size v)) refl
    where
      go : (b : Bool) → ltb (length room) (probe_size v) ≡ b → written v p room ≡ room
      go true q = short-is (ltb-true (length room) (probe_size v) q)
      go false q = absurd (apart k o (sym (rw q at e)))

  -- bytes past the revision's block never change
  pub past-kept : drop (probe_size v) (written v p room) ≡ drop (probe_size v) room
  past-kept = go (ltb (length room) (probe_size v)) refl
    where
      go : (b : Bool) → ltb (length room) (probe_size v) ≡ b → drop (probe_size v) (written v p room) ≡ drop (probe_size v) room
      go true q = rw (short-is (ltb-true (length room) (probe_size v) q))
      go false q = rw (whole_is (ltb-false (length room) (probe_size v) q)) (drop_at (take (probe_size v) (bytes_of p)) (drop (probe_size v) room) (probe_size v) (first-length v p))

  -- reading what was written gives the fields back
  read-written : Held p → probe_size v ≤ length room → probe_of v (take (probe_size v) (written v p room)) ≡ record { verdict = accept; probe = kept_in v p }
  read-written h l =
      rw (whole_is l, take_at (take (probe_size v) (bytes_of p)) (drop (probe_size v) room) (probe_size v) (first-length v p))
      (sym (read_whole v (take (probe_size v) (bytes_of p)) (kept_in v p) (first-length v p) (sym (fields_back v p h))))

-- ---- what `write` promises of a room that is too short, and of one that is not
pub short_back : (v : Revision) (p : Probe) (room : List ℕ) → length room < probe_size v → ReadsBack v p room
short_back v p room h l = absurd (omega arith)

pub whole_back : (v : Revision) (p : Probe) (room now : List ℕ) → Held p → probe_size v ≤ length room → now ≡ written v p room → ReadsBack v p now
whole_back v p room now h l e k = rw e (read-written v p room h l)

-- ---- what `read` promises: writing what was read gives the block's bytes back, and leaves the rest
pub writes-back : (v : Revision) (s : List ℕ) (p : Probe) → AllBytes s → p ≡ fields_of s → WritesBack v p s
writes-back v s p b e l room h =
    rw e (whole_is v (fields_of s) room h ∙ ap (λ (x : List ℕ). x ++ drop (probe_size v) room) (ap (take (probe_size v)) (bytes_back s b) ∙ first-bytes v s ∙ bytes-all s (probe_size v) l))
