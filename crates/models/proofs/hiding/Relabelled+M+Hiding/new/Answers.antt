use Rattle.actions.specs.Sets.{has}
use Rattle.transitions.proofs.Masks.{quiet}
use Rattle.transitions.proofs.Ruled.{hides}
use Rattle.models.proofs.hiding.Relabelled+M+Hiding.new.Goals as goal

pub returns-clause-rules : goal.returns-clause-rules
returns-clause-rules g c = hides (has c.args.set) (quiet c.args.set.bits c.args.set.visible) (g.M.TransitionSystem.meaning c.args.model)
