use Rattle.acceptance.proofs.Rounds.{Round}
use Rattle.acceptance.proofs.rings.has_no_ring.Given as goal

abbrev pub invariant-loop : goal.invariant-loop
invariant-loop l = Round l.equations l.marks l.counter
