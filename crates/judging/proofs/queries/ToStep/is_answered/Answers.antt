use Rattle.std.proofs.Common.{sym}
use Rattle.judging.proofs.Answered.{answered_stay, answered_found}
use Rattle.judging.proofs.queries.ToStep.is_answered.Goals as goal

pub returns-then-may_stay : goal.returns-then-may_stay
returns-then-may_stay g c =
    record { tells = answered_stay (g.R.TransitionSystem.meaning c.args.self.now.right.now) _ _ _ c.args.self.now.want (sym c.if-may_stay.ensures); clean = c.requires.clean }

pub returns : goal.returns
returns g c =
    let q = c.args.self.now in
    let R = g.R.TransitionSystem.meaning q.right.now in
    let B = g.P.Pairing.standing q.pairing.now in
    record { tells = rw c.is_some.ensures (answered_found R B q.s c.args.t q.want (sym c.if-may_stay.ensures) c.search.result c.search.ensures.found); clean = c.search.ensures.clean }
