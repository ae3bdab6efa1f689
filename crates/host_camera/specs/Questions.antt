-- What each question is answered: what is told of the one answer that the reader gives of the same bytes.
use Rattle.std.specs.Prelude.{ℕ, List}
use Rattle.entities.specs.Table.{used}
use Rattle.control.specs.Answer.{ControlIs}
use Rattle.control.specs.declared.Control.{Control}
use Rattle.control_map.specs.Answer.{MapIs}
use Rattle.control_map.specs.declared.Map.{Map}
use Rattle.host_camera.specs.Told.{under_told, no_entity, entity_told, revision_told, controls_told, format_under, frame_under}
use Rattle.host_told.specs.Told.{verdict_told, kth, From}
use Rattle.host_told.specs.declared.Told.{Told}
use Rattle.host_camera.specs.declared.EntityTold.{EntityTold}
use Rattle.host_camera.specs.declared.FormatTold.{FormatTold}
use Rattle.host_camera.specs.declared.FrameTold.{FrameTold}
use Rattle.host_camera.specs.declared.ControlsTold.{ControlsTold}

-- ---- the control block s, and the streaming block t behind it
abbrev pub ControlTold : List ℕ → Told → Type 0
ControlTold s r = From (ControlIs s) (λ (c : Control). verdict_told c.verdict) r

abbrev pub StreamingTold : List ℕ → List ℕ → Told → Type 0
StreamingTold s t r = From (ControlIs s) (λ (c : Control). under_told c.verdict c.table t) r

abbrev pub EntityAnswer : List ℕ → ℕ → EntityTold → Type 0
EntityAnswer s k r = From (ControlIs s) (λ (c : Control). kth no_entity entity_told (used c.table) k) r

abbrev pub ClockAnswer : List ℕ → ℕ → Type 0
ClockAnswer s r = From (ControlIs s) (λ (c : Control). c.table.clock) r

abbrev pub RevisionAnswer : List ℕ → ℕ → Type 0
RevisionAnswer s r = From (ControlIs s) (λ (c : Control). revision_told c.verdict c.table.revision) r

abbrev pub ControlsAnswer : List ℕ → ℕ → ControlsTold → Type 0
ControlsAnswer s id r = From (MapIs s id) controls_told r

-- what stands in the 32 bytes
abbrev pub ControlsLeft : List ℕ → ℕ → List ℕ → Type 0
ControlsLeft s id r = From (MapIs s id) (λ (m : Map). m.bytes) r

abbrev pub FormatAnswer : List ℕ → List ℕ → ℕ → FormatTold → Type 0
FormatAnswer s t k r = From (ControlIs s) (λ (c : Control). format_under c.verdict c.table t k) r

abbrev pub FrameAnswer : List ℕ → List ℕ → ℕ → FrameTold → Type 0
FrameAnswer s t k r = From (ControlIs s) (λ (c : Control). frame_under c.verdict c.table t k) r
