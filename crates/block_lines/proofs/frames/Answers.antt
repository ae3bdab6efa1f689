use native.Mathlib.Omega.{arith}
use Rattle.text.proofs.Texts.{none}
use Rattle.entities.proofs.Finding.{length-of}
use Rattle.streaming_descriptors.specs.Descriptors.{no_frame}
use Rattle.block_lines.specs.Lines.{frame_line}
use Rattle.block_lines.proofs.Tables.{one_more, all-used, all-places}
use Rattle.block_lines.proofs.frames.Goals as goal

pub loop-i-init : goal.loop-i-init
loop-i-init c = (search length-of, omega arith, omega arith, omega arith, none _ _ (omega arith))

pub returns-then-n-i : goal.returns-then-n-i
returns-then-n-i c = let both = all-used frame_line no_frame _ 64 _ _ c.if-n-i.true c.loop-i.invariant in record { put = both.0; upper_bound = both.1 }

pub loop-i-preserved : goal.loop-i-preserved
loop-i-preserved c = let printed = c.frame-at in
    one_more frame_line no_frame _ 64 _ c.loop-i.i (omega arith) (omega arith) c.loop-i.invariant printed.ensures.put printed.ensures.upper_bound

pub returns : goal.returns
returns c = let both = all-places frame_line no_frame _ 64 _ _ (omega arith) c.loop-i.invariant in record { put = both.0; upper_bound = both.1 }
