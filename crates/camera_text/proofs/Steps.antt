-- The texts of the steps, one after the other, are the page: what is left behind a step is what its next place and block say.
use Rattle.rules.specs.Verdicts.{Verdict}
use mathlib.Core.Path.{◌≡◌, refl}
use mathlib.Core.Bool.{Bool}
use mathlib.Core.List.{List, ◌++◌}
use Prim.Native.Nat.{ℕ, suc, ◌≤◌, ◌<◌}
use borrow.Author.Tests.{lt-ltb, le-ltb}
use lib.ListN.{length}
use Rattle.rules.specs.IfElse.{if_else}
use Rattle.text.specs.Put.{Put}
use Rattle.text.proofs.Puts.{then}
use Rattle.text.proofs.Texts.{none}
use Rattle.device_file.specs.Place.{is_device, place_in}
use Rattle.device_file.specs.declared.Place.{Place}
use Rattle.camera_lines.specs.Lines.{text_at}
use Rattle.camera_lines.specs.declared.Part.{Part}
use Rattle.camera_text.specs.Page.{device_text, behind_text, refusal_text, head_text, text_from, next_from, part_from, body_from}

pub one-step : (n : ℕ) (s : List ℕ) (o : ℕ) (part : Part) → body_from (suc n) s o part ≡ text_from s o part ++ body_from n s (next_from s o) (part_from s o part)
unfolding body_from
one-step n s o part = refl

pub inside : (s : List ℕ) (o : ℕ) (part : Part) {old new : List ℕ} {r : ℕ} → o < length s → Put old 0 (text_at s o part) r new → Put old 0 (text_from s o part) r new
unfolding text_from if_else
inside s o part h p = rw (lt-ltb o (length s) h) p

pub outside : (s : List ℕ) (o : ℕ) (part : Part) (old : List ℕ) → length s ≤ o → 0 ≤ length old → Put old 0 (text_from s o part) 0 old
unfolding text_from if_else
outside s o part old h z = rw (le-ltb o (length s) h) (none old 0 z)

-- what stands in front, of a place and a test that were found
pub in-front : (file : List ℕ) (v : Verdict) (p : Place) (b : Bool) {old a m new : List ℕ} {x y r : ℕ} → p ≡ place_in file → b ≡ is_device file → Put old 0 (device_text file b) x a
    → Put a x (behind_text p.behind) y m → Put m y (refusal_text v) r new → Put old 0 (head_text file v) r new
in-front file v p b e d q w z = rw (← e, ← d) (then q (then w z))
