use Rattle.transitions.proofs.Follow.{runs_followed}
use Rattle.transitions.proofs.theorems.runs_followed.Goals as goal

pub returns : goal.returns
returns c = runs_followed
