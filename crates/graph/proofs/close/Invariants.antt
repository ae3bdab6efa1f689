use mathlib.Core.Path.{◌≡◌}
use lib.ListN.{length}
use Rattle.graph.specs.Rows.{places, Edge}
use Rattle.graph.proofs.Chains.{Stands}
use Rattle.graph.proofs.close.Given as goal

abbrev pub invariant-loop-k : goal.invariant-loop-k
invariant-loop-k l = (length l.m ≡ places) × Stands (Edge l.initial.m) l.k l.m
