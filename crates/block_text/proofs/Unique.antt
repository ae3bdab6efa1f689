-- The promise of each public function leaves one answer and one content of the buffer; and no text is empty, so that 0 is a refusal.
use Rattle.std.specs.Prelude.{Err, Ok}
use Rattle.rules.specs.Verdicts.{Verdict}
use mathlib.Core.Path.{◌≡◌}
use mathlib.Core.List.{List}
use Prim.Native.Nat.{ℕ, ◌<◌}
use native.Mathlib.Omega.{arith}
use lib.ListN.{length}
use Rattle.entities.specs.declared.Table.{Table}
use Rattle.control.specs.declared.Control.{Control}
use Rattle.control_map.specs.declared.Map.{Map}
use Rattle.streaming.specs.declared.Streaming.{Streaming}
use Rattle.probe.specs.declared.Probe.{Probe}
use Rattle.text.specs.Written.{answer_of, buffer_of}
use Rattle.text.proofs.Whole.{text-unique}
use Rattle.block_text.specs.Answers.{room, control_by, control_text, map_by, map_text, streaming_by, streaming_text, probe_text}

-- what the promise says of an answer and a buffer, for any text
abbrev pub Promised : List ℕ → List ℕ → ℕ → List ℕ → Type 0
Promised t old r new = (r ≡ answer_of room t old) × (new ≡ buffer_of room t old)

unique : (t old : List ℕ) (r₁ r₂ : ℕ) (new₁ new₂ : List ℕ) → Promised t old r₁ new₁ → Promised t old r₂ new₂ → (r₁ ≡ r₂) × (new₁ ≡ new₂)
unique t old r₁ r₂ new₁ new₂ p q = text-unique room t old r₁ r₂ new₁ new₂ p.0 p.1 q.0 q.1

pub control-unique : (c : Control) (old : List ℕ) (r₁ r₂ : ℕ) (new₁ new₂ : List ℕ) → Promised (control_text c) old r₁ new₁ → Promised (control_text c) old r₂ new₂ → (r₁ ≡ r₂) × (new₁ ≡ new₂)
control-unique c = unique (control_text c)

pub map-unique : (m : Map) (old : List ℕ) (r₁ r₂ : ℕ) (new₁ new₂ : List ℕ) → Promised (map_text m) old r₁ new₁ → Promised (map_text m) old r₂ new₂ → (r₁ ≡ r₂) × (new₁ ≡ new₂)
map-unique m = unique (map_text m)

pub streaming-unique : (s : Streaming) (old : List ℕ) (r₁ r₂ : ℕ) (new₁ new₂ : List ℕ) → Promised (streaming_text s) old r₁ new₁ → Promised (streaming_text s) old r₂ new₂ → (r₁ ≡ r₂) × (new₁ ≡ new₂)
streaming-unique s = unique (streaming_text s)

pub probe-unique : (v : Verdict) (p : Probe) (old : List ℕ) (r₁ r₂ : ℕ) (new₁ new₂ : List ℕ) → Promised (probe_text v p) old r₁ new₁ → Promised (probe_text v p) old r₂ new₂ → (r₁ ≡ r₂) × (new₁ ≡ new₂)
probe-unique v p = unique (probe_text v p)

-- no text is empty
pub some-control : (v : Verdict) (t : Table) → 0 < length (control_by v t)
some-control (Ok _) t = omega arith
some-control (Err r) t = omega arith

pub some-map : (v : Verdict) (m : Map) → 0 < length (map_by v m)
some-map (Ok _) m = omega arith
some-map (Err r) m = omega arith

pub some-streaming : (v : Verdict) (s : Streaming) → 0 < length (streaming_by v s)
some-streaming (Ok _) s = omega arith
some-streaming (Err r) s = omega arith

pub some-probe : (v : Verdict) (p : Probe) → 0 < length (probe_text v p)
some-probe (Ok _) p = omega arith
some-probe (Err r) p = omega arith
