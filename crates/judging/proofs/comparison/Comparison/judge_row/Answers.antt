use Rattle.std.proofs.Common.{arith}
use Rattle.std.proofs.lemmas.Result.{err_from_is_err_and}
use Rattle.judging.proofs.Ordering.{row_passed, row_broken}
use Rattle.judging.proofs.comparison.Comparison.judge_row.Goals as goal

pub returns-in_err-judge_pair-clause-judged : goal.returns-in_err-judge_pair-clause-judged
returns-in_err-judge_pair-clause-judged g c =
    let L = g.L.TransitionSystem.meaning c.args.self.now.left.now in
    let R = g.R.TransitionSystem.meaning c.args.self.now.right.now in
    let B = g.P.Pairing.standing c.args.self.now.pairing.now in
    let p = err_from_is_err_and c.from_residual.result c.from_residual.ensures.1 in
    let next = c.in-Some.ensures in
    rw (p.1, p.2) (row_broken L R B c.args.s c.loop-t.from c.in-Some.t c.in_err-judge_pair.field-0.0 c.loop-t.invariant.1 next.3 c.in_err-judge_pair.ensures.judged)

pub returns : goal.returns
returns g c =
    let L = g.L.TransitionSystem.meaning c.args.self.now.left.now in
    let R = g.R.TransitionSystem.meaning c.args.self.now.right.now in
    let B = g.P.Pairing.standing c.args.self.now.pairing.now in
    record {
      judged = λ t h. row_passed L R B c.args.s c.loop-t.from c.states-below.result c.loop-t.invariant.1 c.in_default.ensures t (omega (arith, c.states-below.ensures));
      clean = c.loop-t.invariant.0;
    }
