use Rattle.transitions.proofs.Grouping.{associative, all_regroup}
use Rattle.actions.proofs.grouping.is_associative.Goals as goal

pub returns : goal.returns
returns c once = (λ e. associative c.args.lines.now (c.all_regroup.ensures.0 e), λ h. c.all_regroup.ensures.1 (all_regroup c.args.lines.now once h))
