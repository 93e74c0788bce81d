use Rattle.std.proofs.Common.{ℕ, ◌<◌}
use Rattle.transitions.proofs.Fresh.{Fresh}
use Rattle.actions.proofs.acceptance.names_once.Given as goal

abbrev pub invariant-loop-k : goal.invariant-loop-k
invariant-loop-k l = (k : ℕ) → k < l.k → Fresh l.lines k
