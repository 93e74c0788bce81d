use Rattle.std.proofs.Common.{length}
use Rattle.modelfile.proofs.Loops.{Stands}
use Rattle.modelfile.proofs.filling.Filling.read.Given as goal

abbrev pub invariant-loop-text : goal.invariant-loop-text
invariant-loop-text l = Stands l.initial.self l.bytes l.self l.line l.rest

abbrev pub decreases-loop-text : goal.decreases-loop-text
decreases-loop-text l = length l.rest
