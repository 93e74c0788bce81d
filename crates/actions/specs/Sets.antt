-- The members of a set of actions.
use Rattle.transitions.specs.Made.{Actions}
use Rattle.transitions.specs.Communications.{of_mask}
use Rattle.actions.specs.declared.sets.ActionSet.{ActionSet}

abbrev pub has : ActionSet → Actions
has set = of_mask set.bits
