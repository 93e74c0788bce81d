use Rattle.actions.specs.Sets.{has}
use Rattle.transitions.proofs.Masks.{quiet}
use Rattle.transitions.proofs.Ruled.{blocks}
use Rattle.models.proofs.blocking.Relabelled+M+Blocking.new.Goals as goal

pub returns-clause-rules : goal.returns-clause-rules
returns-clause-rules g c = blocks (has c.args.set) (quiet c.args.set.bits c.args.set.visible) (g.M.TransitionSystem.meaning c.args.model)
