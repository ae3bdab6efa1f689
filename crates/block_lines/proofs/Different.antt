-- EACH LINE TELLS ITS THING, and what follows it.
use mathlib.Core.Path.{◌≡◌, refl, ap}
use mathlib.Core.List.{List, [], ◌∷◌, ◌++◌}
use Prim.Native.Nat.{ℕ}
use lib.ListN.{get_or}
use Rattle.entities.specs.declared.Entity.{Entity}
use Rattle.streaming_descriptors.specs.declared.Format.{Format}
use Rattle.streaming_descriptors.specs.declared.Frame.{Frame}
use Rattle.text.specs.Text.{bytes}
use Rattle.text.proofs.Different.{line-split}
use Rattle.block_lines.specs.Lines.{entity_line, format_line, frame_line}

entity_of : List ℕ → Entity
entity_of l = record { id = get_or l 0 0; kind = get_or l 1 0; terminal = get_or l 2 0; offset = get_or l 3 0 }

pub entity-split : (d e : Entity) (s t : List ℕ) → entity_line d ++ s ≡ entity_line e ++ t → (d ≡ e) × (s ≡ t)
unfolding entity_of
entity-split d e s t h =
    let w = line-split (bytes "entity") (d.id ∷ d.kind ∷ d.terminal ∷ d.offset ∷ []) (e.id ∷ e.kind ∷ e.terminal ∷ e.offset ∷ []) s t refl h in
    (ap entity_of w.0, w.1)

format_of : List ℕ → Format
format_of l = record { kind = get_or l 0 0; guid = get_or l 1 0; bits = get_or l 2 0; frames = get_or l 3 0; default = get_or l 4 0; offset = get_or l 5 0 }

pub format-split : (d e : Format) (s t : List ℕ) → format_line d ++ s ≡ format_line e ++ t → (d ≡ e) × (s ≡ t)
unfolding format_of
format-split d e s t h =
    let w = line-split (bytes "format") (d.kind ∷ d.guid ∷ d.bits ∷ d.frames ∷ d.default ∷ d.offset ∷ []) (e.kind ∷ e.guid ∷ e.bits ∷ e.frames ∷ e.default ∷ e.offset ∷ []) s t refl h in
    (ap format_of w.0, w.1)

frame_of : List ℕ → Frame
frame_of l = record { format = get_or l 0 0; width = get_or l 1 0; height = get_or l 2 0; size = get_or l 3 0; interval = get_or l 4 0; k = get_or l 5 0; offset = get_or l 6 0 }

pub frame-split : (d e : Frame) (s t : List ℕ) → frame_line d ++ s ≡ frame_line e ++ t → (d ≡ e) × (s ≡ t)
unfolding frame_of
frame-split d e s t h =
    let w = line-split (bytes "frame") (d.format ∷ d.width ∷ d.height ∷ d.size ∷ d.interval ∷ d.k ∷ d.offset ∷ []) (e.format ∷ e.width ∷ e.height ∷ e.size ∷ e.interval ∷ e.k ∷ e.offset ∷ []) s t refl h in
    (ap frame_of w.0, w.1)
