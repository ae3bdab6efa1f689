-- As many steps as the configuration has bytes come to its end: more of them print nothing more. And each promise leaves one answer.
use Rattle.rules.specs.Verdicts.{Verdict}
use mathlib.Core.Path.{◌≡◌, refl, ap}
use mathlib.Core.Bool.{Bool, true, false}
use mathlib.Core.List.{List, [], ◌++◌}
use Prim.Native.Nat.{ℕ, zero, suc, ◌+◌, ◌≤◌, ◌<◌}
use native.Mathlib.Omega.{arith}
use borrow.Author.Tests.{lt-ltb, le-ltb, ltb-true, ltb-false}
use lib.Dec.{ltb}
use lib.ListN.{length}
use Rattle.rules.specs.IfElse.{if_else}
use Rattle.text.specs.Written.{answer_of, buffer_of}
use Rattle.text.proofs.Whole.{text-unique}
use Rattle.configuration_rules.specs.Descriptors.{after_at}
use Rattle.interfaces.proofs.Lines.{after_on}
use Rattle.camera_lines.specs.Parts.{room}
use Rattle.camera_lines.specs.declared.Part.{Part}
use Rattle.camera_text.specs.Page.{head_text, text_from, next_from, part_from, body_from}

past-text : (s : List ℕ) (o : ℕ) (part : Part) → length s ≤ o → text_from s o part ≡ []
unfolding text_from if_else
past-text s o part h = rw (le-ltb o (length s) h)

past_next : (s : List ℕ) (o : ℕ) → length s ≤ o → next_from s o ≡ length s
unfolding next_from if_else
past_next s o h = rw (le-ltb o (length s) h)

in-next : (s : List ℕ) (o : ℕ) → o < length s → next_from s o ≡ after_at s o
unfolding next_from if_else
in-next s o h = rw (lt-ltb o (length s) h)

-- from the end on nothing is printed
pub past : (n : ℕ) (s : List ℕ) (o : ℕ) (part : Part) → length s ≤ o → body_from n s o part ≡ []
unfolding body_from
past zero s o part h = refl
past (suc n) s o part h = rw (past-text s o part h, past_next s o h) (past n s (length s) (part_from s o part) (omega arith))

-- a step comes nearer to the end
step-on : (s : List ℕ) (o n : ℕ) → length s ≤ o + suc n → (b : Bool) → ltb o (length s) ≡ b → length s ≤ next_from s o + n
step-on s o n h true e =
    let l : o < length s = ltb-true o (length s) e in
    omega (arith, in-next s o l, (after_on s o l).0)
step-on s o n h false e = omega (arith, past_next s o (ltb-false o (length s) e))

pub enough : (n m : ℕ) (s : List ℕ) (o : ℕ) (part : Part) → length s ≤ o + n → body_from (n + m) s o part ≡ body_from n s o part
unfolding body_from
enough zero m s o part h =
    let z : zero + m ≡ m = omega arith in
    rw z (past m s o part (omega arith))
enough (suc n) m s o part h =
    let z : suc n + m ≡ suc (n + m) = omega arith in
    rw z (ap (λ (l : List ℕ). text_from s o part ++ l) (enough n m s (next_from s o) (part_from s o part) (step-on s o n h (ltb o (length s)) refl)))

-- ---- one answer
pub head-unique : (file : List ℕ) (v : Verdict) (old : List ℕ) (x y : ℕ) (a b : List ℕ)
    → x ≡ answer_of room (head_text file v) old → a ≡ buffer_of room (head_text file v) old → y ≡ answer_of room (head_text file v) old → b ≡ buffer_of room (head_text file v) old → (x ≡ y) × (a ≡ b)
head-unique file v = text-unique room (head_text file v)

pub text-of-unique : (s : List ℕ) (o : ℕ) (part : Part) (old : List ℕ) (x y : ℕ) (a b : List ℕ)
    → x ≡ answer_of room (text_from s o part) old → a ≡ buffer_of room (text_from s o part) old → y ≡ answer_of room (text_from s o part) old → b ≡ buffer_of room (text_from s o part) old
    → (x ≡ y) × (a ≡ b)
text-of-unique s o part = text-unique room (text_from s o part)
