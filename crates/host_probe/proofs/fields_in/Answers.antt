use Rattle.host_probe.proofs.Steps.{fields-are}
use Rattle.host_probe.proofs.fields_in.Goals as goal

pub returns : goal.returns
returns c = fields-are c.args.w.now _ c.layout_in.ensures
