use Rattle.host_probe.proofs.Steps.{words_are}
use Rattle.host_probe.proofs.words_of.Goals as goal

pub returns : goal.returns
returns c = words_are c.args.p _ _ _ _ _ _ _ _ c.wide.ensures c.wide-2.ensures c.wide-3.ensures c.wide-4.ensures c.wide-5.ensures c.wide-6.ensures c.wide-7.ensures c.wide-8.ensures
