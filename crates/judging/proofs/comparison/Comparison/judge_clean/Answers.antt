use Rattle.std.proofs.Common.{true, sym}
use Rattle.judging.proofs.Ordering.{started, unrooted_left, unrooted_right, matched}
use Rattle.judging.proofs.comparison.Comparison.judge_clean.Goals as goal

pub returns-in-Some-clause-is : goal.returns-in-Some-clause-is
returns-in-Some-clause-is g c =
    let L = g.L.TransitionSystem.meaning c.args.self.now.left.now in
    let R = g.R.TransitionSystem.meaning c.args.self.now.right.now in
    let B = g.P.Pairing.standing c.args.self.now.pairing.now in
    unrooted_left L R B _ _ c.start-s.ensures c.start-t.ensures _ (sym c.if-not-stands.ensures) c.in_ok-judge_rows.ensures.judged c.in-Some.ensures

pub returns-in-Some-first_unrooted-clause-is : goal.returns-in-Some-first_unrooted-clause-is
returns-in-Some-first_unrooted-clause-is g c =
    let L = g.L.TransitionSystem.meaning c.args.self.now.left.now in
    let R = g.R.TransitionSystem.meaning c.args.self.now.right.now in
    let B = g.P.Pairing.standing c.args.self.now.pairing.now in
    unrooted_right L R B _ _ c.start-s.ensures c.start-t.ensures _ (sym c.if-not-stands.ensures) c.in_ok-judge_rows.ensures.judged c.in_default.ensures
    (rw (c.turned.ensures.left, c.turned.ensures.right, c.turned.ensures.pairing) at c.in-Some-first_unrooted.ensures)

pub returns-clause-is : goal.returns-clause-is
returns-clause-is g c =
    let L = g.L.TransitionSystem.meaning c.args.self.now.left.now in
    let R = g.R.TransitionSystem.meaning c.args.self.now.right.now in
    let B = g.P.Pairing.standing c.args.self.now.pairing.now in
    matched L R B (started L R B _ _ c.start-s.ensures c.start-t.ensures true (sym c.if-not-stands.ensures)) c.in_ok-judge_rows.ensures.judged c.in_default.ensures
    (g.L.TransitionSystem.lawful c.args.self.now.left.now) (g.R.TransitionSystem.lawful c.args.self.now.right.now)
    (rw (c.turned.ensures.left, c.turned.ensures.right, c.turned.ensures.pairing) at c.in_default-first_unrooted.ensures)
