use Rattle.entities.specs.Table.{used}
use Rattle.sources.proofs.Linking.{Linking, founds}
use Rattle.sources.proofs.links.gather.Given as goal

abbrev pub invariant-loop-q : goal.invariant-loop-q
invariant-loop-q l = Linking (used l.t) (founds l.s (used l.t) l.place) l.lost l.output l.row l.q
