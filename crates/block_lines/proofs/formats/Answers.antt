use native.Mathlib.Omega.{arith}
use Rattle.text.proofs.Texts.{none}
use Rattle.entities.proofs.Finding.{length-of}
use Rattle.streaming_descriptors.specs.Descriptors.{no_format}
use Rattle.block_lines.specs.Lines.{format_line}
use Rattle.block_lines.proofs.Tables.{one_more, all-used, all-places}
use Rattle.block_lines.proofs.formats.Goals as goal

pub loop-i-init : goal.loop-i-init
loop-i-init c = (search length-of, omega arith, omega arith, omega arith, none _ _ (omega arith))

pub returns-then-n-i : goal.returns-then-n-i
returns-then-n-i c = let both = all-used format_line no_format _ 8 _ _ c.if-n-i.true c.loop-i.invariant in record { put = both.0; upper_bound = both.1 }

pub loop-i-preserved : goal.loop-i-preserved
loop-i-preserved c = let printed = c.format-at in
    one_more format_line no_format _ 8 _ c.loop-i.i (omega arith) (omega arith) c.loop-i.invariant printed.ensures.put printed.ensures.upper_bound

pub returns : goal.returns
returns c = let both = all-places format_line no_format _ 8 _ _ (omega arith) c.loop-i.invariant in record { put = both.0; upper_bound = both.1 }
