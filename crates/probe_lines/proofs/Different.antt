-- THE LINES OF A PROBE BLOCK'S FIELDS TELL THE BLOCK, and each field has its own line.
use mathlib.Core.Path.{◌≡◌, refl, sym, ap, ◌∙◌}
use mathlib.Core.List.{List, [], ◌∷◌, ◌++◌}
use Prim.Native.Nat.{ℕ}
use Prim.Native.String.{String}
use lib.ListN.{length, get_or}
use Rattle.probe.specs.declared.Probe.{Probe}
use Rattle.text.specs.Text.{bytes, line}
use Rattle.text.proofs.Different.{line-split, lines_split}
use Rattle.probe_lines.specs.Fields.{rows, numbers_of, layout_text, fields_text}

-- a field's line
abbrev field : String → ℕ → List ℕ
field name n = line (bytes name) (n ∷ [])

-- LINE BY LINE, what the table prints
line-by-line : (p : Probe) →
    fields_text p
    ≡ (field "hint" p.hint
    ++ (field "format" p.format
    ++ (field "frame" p.frame
    ++ (field "interval" p.interval
    ++ (field "key rate" p.key_rate
    ++ (field "P rate" p.p_rate
    ++ (field "quality" p.quality
    ++ (field "window" p.window
    ++ (field "delay" p.delay
    ++ (field "frame size" p.frame_size
    ++ (field "payload size" p.payload_size
    ++ (field "clock" p.clock
    ++ (field "framing" p.framing
    ++ (field "preferred" p.preferred
    ++ (field "minimum" p.minimum
    ++ (field "maximum version" p.maximum
    ++ (field "usage" p.usage
    ++ (field "luma depth" p.luma_depth
    ++ (field "settings" p.settings
    ++ (field "reference frames" p.reference_frames
    ++ (field "rate modes" p.rate_modes
    ++ [])))))))))))))))))))))
    ++ line (bytes "layout") p.layout
line-by-line p = refl

-- a probe block of its numbers and its layout
probe_of : List ℕ → List ℕ → Probe
probe_of ns l =
    record {
      hint = get_or ns 0 0;
      format = get_or ns 1 0;
      frame = get_or ns 2 0;
      interval = get_or ns 3 0;
      key_rate = get_or ns 4 0;
      p_rate = get_or ns 5 0;
      quality = get_or ns 6 0;
      window = get_or ns 7 0;
      delay = get_or ns 8 0;
      frame_size = get_or ns 9 0;
      payload_size = get_or ns 10 0;
      clock = get_or ns 11 0;
      framing = get_or ns 12 0;
      preferred = get_or ns 13 0;
      minimum = get_or ns 14 0;
      maximum = get_or ns 15 0;
      usage = get_or ns 16 0;
      luma_depth = get_or ns 17 0;
      settings = get_or ns 18 0;
      reference_frames = get_or ns 19 0;
      rate_modes = get_or ns 20 0;
      layout = l;
    }

pub fields-different : (p q : Probe) → length p.layout ≡ 8 → length q.layout ≡ 8 → fields_text p ≡ fields_text q → p ≡ q
unfolding probe_of
fields-different p q h k e =
    let w = lines_split rows (numbers_of p) (numbers_of q) (layout_text p.layout) (layout_text q.layout) refl refl e in
    let l = line-split (bytes "layout") p.layout q.layout [] [] (h ∙ sym k) (ap (◌++ []) w.1) in
    λ i. probe_of (w.0 i) (l.0 i)
