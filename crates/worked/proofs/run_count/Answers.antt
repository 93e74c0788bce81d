use Rattle.std.proofs.Common.{refl}
use Rattle.std.specs.Fmt.{digits}
use Rattle.transitions.specs.Listed.{listed_joins}
use Rattle.worked.specs.Worked.{runs}
use Rattle.worked.proofs.Checking.{all_hold}
use Rattle.worked.proofs.run_count.Goals as goal

-- The whole table passes the test, by computation.
pub returns : goal.returns
unfolding listed_joins digits
returns c = record { count = refl; hold = all_hold runs refl }
