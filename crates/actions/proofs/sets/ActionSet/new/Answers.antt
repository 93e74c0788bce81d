use Rattle.std.proofs.Common.{ap, ◌∙◌}
use Rattle.transitions.specs.Communications.{of_mask}
use Rattle.transitions.proofs.Masks.{made}
use Rattle.actions.proofs.sets.ActionSet.new.Goals as goal

pub returns : goal.returns
returns c = ap of_mask c.cleared.ensures ∙ made c.args.mask
