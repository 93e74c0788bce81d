use Rattle.std.proofs.Common.{rules}
use Rattle.transitions.proofs.Grouping.{LineRegroups}
use Rattle.actions.proofs.grouping.line_regroups.Goals as goal

pub returns : goal.returns
unfolding LineRegroups
returns c = search rules
