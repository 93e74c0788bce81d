use Rattle.std.proofs.Common.{sym}
use Rattle.judging.proofs.Answered.{answered_none}
use Rattle.judging.proofs.Replying.{replies_stay, replies_move}
use Rattle.judging.proofs.queries.ToStep.reply.Goals as goal

pub returns-then-may_stay : goal.returns-then-may_stay
returns-then-may_stay g c =
    record { is = replies_stay (g.R.TransitionSystem.meaning c.args.self.now.right.now) (g.P.Pairing.standing c.args.self.now.pairing.now) c.args.self.now.s c.args.t c.args.self.now.want (sym c.if-may_stay.ensures); clean = c.requires.clean }

pub returns : goal.returns
returns g c =
    record { is = replies_move _ _ _ _ c.args.self.now.want (sym c.if-may_stay.ensures) _ c.in_ok-found.ensures.found; clean = c.search.ensures.clean }

pub returns-in_err-found : goal.returns-in_err-found
returns-in_err-found g c =
    record { is = rw c.from_residual.ensures (answered_none _ _ _ _ c.args.self.now.want (sym c.if-may_stay.ensures) c.in_err-found.ensures.found); clean = c.search.ensures.clean }
