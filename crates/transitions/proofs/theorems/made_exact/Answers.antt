use Rattle.transitions.proofs.Ruled.{made_exact}
use Rattle.transitions.proofs.theorems.made_exact.Goals as goal

pub returns : goal.returns
returns c = made_exact
