use Rattle.std.proofs.Common.{sym}
use Rattle.judging.proofs.Answered.{end_tells}
use Rattle.judging.proofs.comparison.Comparison.answers_end.Goals as goal

pub returns : goal.returns
returns g c =
    let L = g.L.TransitionSystem.meaning c.args.self.now.left.now in
    let R = g.R.TransitionSystem.meaning c.args.self.now.right.now in
    let B = g.P.Pairing.standing c.args.self.now.pairing.now in
    record {
      tells = rw c.is_some.ensures (end_tells R B c.args.s c.args.t L (sym c.if-not-may_end.ensures) c.search.result c.search.ensures.found);
      clean = c.search.ensures.clean;
    }
