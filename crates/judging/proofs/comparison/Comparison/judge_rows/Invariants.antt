use Rattle.std.proofs.Common.{ℕ, ◌<◌, Ok}
use Rattle.judging.specs.Scratch.{Clean}
use Rattle.judging.specs.Parts.{RowJudged}
use Rattle.judging.proofs.comparison.Comparison.judge_rows.Given as goal

abbrev pub invariant-loop-s : goal.invariant-loop-s
invariant-loop-s g l =
    Clean l.marks l.queue
    × ((s : ℕ) → s < l.s → RowJudged (g.L.TransitionSystem.meaning l.self.left.now) (g.R.TransitionSystem.meaning l.self.right.now) (g.P.Pairing.standing l.self.pairing.now) s (Ok tt))
