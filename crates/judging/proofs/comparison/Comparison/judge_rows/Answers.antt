use Rattle.std.proofs.Common.{ℕ, Ok, below_more}
use Rattle.std.proofs.lemmas.Result.{err_from_is_err_and}
use Rattle.judging.specs.Parts.{RowJudged}
use Rattle.judging.proofs.Ordering.{rows_broken}
use Rattle.judging.proofs.comparison.Comparison.judge_rows.Goals as goal

pub returns-in_err-judge_row-clause-judged : goal.returns-in_err-judge_row-clause-judged
returns-in_err-judge_row-clause-judged g c =
    let L = g.L.TransitionSystem.meaning c.args.self.now.left.now in
    let R = g.R.TransitionSystem.meaning c.args.self.now.right.now in
    let B = g.P.Pairing.standing c.args.self.now.pairing.now in
    let p = err_from_is_err_and c.from_residual.result c.from_residual.ensures.1 in
    rw (p.1, p.2) (rows_broken L R B c.loop-s.s c.in_err-judge_row.field-0.0 c.loop-s.invariant.1 c.in_err-judge_row.ensures.judged)

pub loop-s-preserved : goal.loop-s-preserved
loop-s-preserved g c =
    let P : ℕ → Type 0 = λ s. RowJudged (g.L.TransitionSystem.meaning c.args.self.now.left.now) (g.R.TransitionSystem.meaning c.args.self.now.right.now) (g.P.Pairing.standing c.args.self.now.pairing.now) s (Ok tt) in
    (c.judge_row.ensures.clean, below_more P _ c.loop-s.invariant.1 c.in_ok-judge_row.ensures.judged)
