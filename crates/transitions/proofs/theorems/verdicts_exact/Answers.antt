use Rattle.transitions.proofs.Judging.{verdicts_exact}
use Rattle.transitions.proofs.theorems.verdicts_exact.Goals as goal

pub returns : goal.returns
returns c = verdicts_exact
