use Rattle.control_map.proofs.Bytes.{fills, filled_more, filled-all}
use Rattle.control_map.proofs.control_bytes.Goals as goal

pub loop-i-init : goal.loop-i-init
loop-i-init c = fills _ _ _

pub loop-i-preserved : goal.loop-i-preserved
loop-i-preserved c = search filled_more

pub returns : goal.returns
returns c = search filled-all
