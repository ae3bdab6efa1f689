use mathlib.Core.Path.{sym, ◌∙◌}
use Rattle.configuration_layout.proofs.Parts.{control-there}
use Rattle.configuration.proofs.Reading.{laid_out, blocks-refuse, all_sound}
use Rattle.configuration.proofs.read.Goals as goal

pub returns-in-Err : goal.returns-in-Err
returns-in-Err c = search laid_out

pub judge_blocks-requires : goal.judge_blocks-requires
judge_blocks-requires c = control-there _ (sym c.judge.ensures ∙ c.in_default.is) _ c.next-at.ensures

pub returns-in-Err-judge_blocks : goal.returns-in-Err-judge_blocks
returns-in-Err-judge_blocks c = blocks-refuse _ _ c.judge.ensures c.in_default.is _ c.next-at.ensures _ c.judge_blocks.ensures
    _ _ c.in-Err-judge_blocks.is _ c.refused-in-Err-judge_blocks.ensures

pub block_at-control-requires : goal.block_at-control-requires
block_at-control-requires c = control-there _ (sym c.judge.ensures ∙ c.in_default.is) _ c.next-at.ensures

pub returns : goal.returns
returns c = all_sound _ _ c.judge.ensures c.in_default.is _ c.next-at.ensures _ c.judge_blocks.ensures
    c.in_default-judge_blocks.is _ c.block_at-control.ensures _ c.listed-l.ensures
