-- The promise of each public function leaves one answer and one content of the buffer; and no text is empty, so that 0 is a refusal.
use Rattle.std.specs.Prelude.{Err, Ok}
use Rattle.rules.specs.Verdicts.{Verdict}
use mathlib.Core.Path.{◌≡◌}
use mathlib.Core.List.{List}
use Prim.Native.Nat.{ℕ, ◌<◌}
use native.Mathlib.Omega.{arith}
use lib.ListN.{length}
use Rattle.camera_settings.specs.declared.Setting.{Setting}
use Rattle.packets.specs.declared.Reading.{Reading}
use Rattle.packets.specs.declared.Reading.TheVariants.{Asks, Refused}
use Rattle.nearest.specs.declared.Moved.{Moved}
use Rattle.text.proofs.Whole.{text-unique}
use Rattle.block_text.specs.Answers.{room}
use Rattle.block_text.proofs.Unique.{Promised}
use Rattle.setup_text.specs.Answers.{built_text, read_text, moved_by, moved_text}

unique : (t old : List ℕ) (r₁ r₂ : ℕ) (new₁ new₂ : List ℕ) → Promised t old r₁ new₁ → Promised t old r₂ new₂ → (r₁ ≡ r₂) × (new₁ ≡ new₂)
unique t old r₁ r₂ new₁ new₂ p q = text-unique room t old r₁ r₂ new₁ new₂ p.0 p.1 q.0 q.1

pub built-unique : (v : Verdict) (p old : List ℕ) (r₁ r₂ : ℕ) (new₁ new₂ : List ℕ) → Promised (built_text v p) old r₁ new₁ → Promised (built_text v p) old r₂ new₂ → (r₁ ≡ r₂) × (new₁ ≡ new₂)
built-unique v p = unique (built_text v p)

pub read-unique : (x : Reading) (old : List ℕ) (r₁ r₂ : ℕ) (new₁ new₂ : List ℕ) → Promised (read_text x) old r₁ new₁ → Promised (read_text x) old r₂ new₂ → (r₁ ≡ r₂) × (new₁ ≡ new₂)
read-unique x = unique (read_text x)

pub moved-unique : (s : Setting) (m : Moved) (old : List ℕ) (r₁ r₂ : ℕ) (new₁ new₂ : List ℕ) → Promised (moved_text s m) old r₁ new₁ → Promised (moved_text s m) old r₂ new₂ → (r₁ ≡ r₂) × (new₁ ≡ new₂)
moved-unique s m = unique (moved_text s m)

-- no text is empty
pub some-built : (v : Verdict) (p : List ℕ) → 0 < length (built_text v p)
some-built (Ok _) p = omega arith
some-built (Err r) p = omega arith

pub some_read : (x : Reading) → 0 < length (read_text x)
some_read (Asks u c q) = omega arith
some_read (Refused k o) = omega arith

pub some-moved : (v : Verdict) (s : Setting) (w : ℕ) → 0 < length (moved_by v s w)
some-moved (Ok _) s w = omega arith
some-moved (Err r) s w = omega arith
