use Rattle.std.proofs.Common.{◌-◌}
use Rattle.judging.specs.Scratch.{Clean}
use Rattle.judging.proofs.Ordering.{RowUpto}
use Rattle.judging.proofs.comparison.Comparison.judge_row.Given as goal

abbrev pub invariant-loop-t : goal.invariant-loop-t
invariant-loop-t g l =
    Clean l.marks l.queue
    × RowUpto (g.L.TransitionSystem.meaning l.self.left.now) (g.R.TransitionSystem.meaning l.self.right.now) (g.P.Pairing.standing l.self.pairing.now) l.s l.from

abbrev pub decreases-loop-t : goal.decreases-loop-t
decreases-loop-t g l = l.below - l.from
