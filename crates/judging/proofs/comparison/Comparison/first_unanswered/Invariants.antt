use Rattle.std.proofs.Common.{ℕ, ◌<◌}
use Rattle.transitions.specs.Verdict.{AtPlace}
use Rattle.judging.specs.Scratch.{Clean}
use Rattle.judging.proofs.comparison.Comparison.first_unanswered.Given as goal

abbrev pub invariant-loop-place : goal.invariant-loop-place
invariant-loop-place g l =
    Clean l.marks l.queue
    × ((p : ℕ) → p < l.place → AtPlace (g.L.TransitionSystem.meaning l.self.left.now) (g.R.TransitionSystem.meaning l.self.right.now) (g.P.Pairing.standing l.self.pairing.now) l.s l.t p)
