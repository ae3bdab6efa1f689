-- The lines of one number, and the layout behind them, are all fields.
use mathlib.Core.Path.{◌≡◌}
use mathlib.Core.List.{List}
use Prim.Native.Nat.{ℕ}
use Rattle.probe.specs.declared.Probe.{Probe}
use Rattle.text.specs.Put.{Put}
use Rattle.text.specs.Text.{lines}
use Rattle.text.proofs.Puts.{then}
use Rattle.probe_lines.specs.Fields.{rows, numbers_of, layout_text, fields_text}

pub joined : (p : Probe) (ns : List ℕ) {old mid new : List ℕ} {at m r : ℕ} → ns ≡ numbers_of p → Put old at (lines rows ns) m mid → Put mid m (layout_text p.layout) r new
    → Put old at (fields_text p) r new
joined p ns e a b = then (rw e at a) b
