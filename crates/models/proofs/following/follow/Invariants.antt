use Rattle.transitions.specs.Following.{Repeats}
use Rattle.models.proofs.following.follow.Given as goal

abbrev pub invariant-loop-made : goal.invariant-loop-made
invariant-loop-made g l = Repeats (g.M.TransitionSystem.meaning l.model) l.action (g.M.TransitionSystem.meaning l.model).start l.made l.state
