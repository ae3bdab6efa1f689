-- The fields of a probe block: a line each, in the block's order.
use Rattle.std.specs.Prelude.{List, [], ◌∷◌, ◌++◌, ℕ}
use Prim.Native.String.{String}
use Rattle.probe.specs.declared.Probe.{Probe}
use Rattle.text.specs.Text.{Row, bytes, line, lines}

-- a field of one number
abbrev pub single : String → Row
single s = record { name = bytes s; count = 1 }

-- THE LINES: each field has one number; the layout comes behind them
abbrev pub rows : List Row
rows =
    single "hint" ∷
    single "format" ∷
    single "frame" ∷
    single "interval" ∷
    single "key rate" ∷
    single "P rate" ∷
    single "quality" ∷
    single "window" ∷
    single "delay" ∷
    single "frame size" ∷
    single "payload size" ∷
    single "clock" ∷
    single "framing" ∷
    single "preferred" ∷
    single "minimum" ∷
    single "maximum version" ∷
    single "usage" ∷
    single "luma depth" ∷
    single "settings" ∷
    single "reference frames" ∷
    single "rate modes" ∷
    []

-- their numbers
abbrev pub numbers_of : Probe → List ℕ
numbers_of p =
    p.hint ∷
    p.format ∷
    p.frame ∷
    p.interval ∷
    p.key_rate ∷
    p.p_rate ∷
    p.quality ∷
    p.window ∷
    p.delay ∷
    p.frame_size ∷
    p.payload_size ∷
    p.clock ∷
    p.framing ∷
    p.preferred ∷
    p.minimum ∷
    p.maximum ∷
    p.usage ∷
    p.luma_depth ∷
    p.settings ∷
    p.reference_frames ∷
    p.rate_modes ∷
    []

-- the eight numbers of the layout
abbrev pub layout_text : List ℕ → List ℕ
layout_text l = line (bytes "layout") l

-- ALL FIELDS
abbrev pub fields_text : Probe → List ℕ
fields_text p = lines rows (numbers_of p) ++ layout_text p.layout
