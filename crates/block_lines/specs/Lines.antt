-- One thing, one line: what is printed of an entity, a format, a frame, a unit's controls, a revision and a refusal.
use Rattle.std.specs.Prelude.{List, [], ◌∷◌, ◌++◌, ℕ, take}
use Rattle.entities.specs.declared.Entity.{Entity}
use Rattle.entities.specs.declared.Revision.{Revision}
use Rattle.entities.specs.declared.Revision.TheVariants.{R10, R11, R15}
use Rattle.streaming_descriptors.specs.declared.Format.{Format}
use Rattle.streaming_descriptors.specs.declared.Frame.{Frame}
use Rattle.text.specs.Text.{bytes, number, line}

-- ID, kind, terminal type, offset
abbrev pub entity_line : Entity → List ℕ
entity_line e = line (bytes "entity") (e.id ∷ e.kind ∷ e.terminal ∷ e.offset ∷ [])

-- kind, GUID's number, bits, how many frames, default frame, offset
abbrev pub format_line : Format → List ℕ
format_line f = line (bytes "format") (f.kind ∷ f.guid ∷ f.bits ∷ f.frames ∷ f.default ∷ f.offset ∷ [])

-- its format, width, height, size, interval, K, offset
abbrev pub frame_line : Frame → List ℕ
frame_line f = line (bytes "frame") (f.format ∷ f.width ∷ f.height ∷ f.size ∷ f.interval ∷ f.k ∷ f.offset ∷ [])

-- the first n control bytes, the first first
abbrev pub controls_line : ℕ → List ℕ → List ℕ
controls_line n l = line (bytes "controls") (take n l)

-- the revision
abbrev pub revision_line : Revision → List ℕ
revision_line R10 = bytes "revision 1.0\n"
revision_line R11 = bytes "revision 1.1\n"
revision_line R15 = bytes "revision 1.5\n"

-- the rule's number, and the place that breaks it
abbrev pub refused_line : ℕ → ℕ → List ℕ
refused_line k o = bytes "refused" ++ (number k ++ line (bytes " at") (o ∷ []))

abbrev pub accepted_line : List ℕ
accepted_line = bytes "accepted\n"
