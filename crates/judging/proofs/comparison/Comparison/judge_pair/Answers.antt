use Rattle.judging.proofs.Ordering.{left_step, right_step, left_end, right_end}
use Rattle.judging.proofs.comparison.Comparison.judge_pair.Goals as goal

pub returns-in-Some : goal.returns-in-Some
returns-in-Some g c =
    let L = g.L.TransitionSystem.meaning c.args.self.now.left.now in
    let R = g.R.TransitionSystem.meaning c.args.self.now.right.now in
    let B = g.P.Pairing.standing c.args.self.now.pairing.now in
    record {
      judged = left_step L R B _ _ c.requires.leftmost c.requires.rightmost c.requires.stands _ c.in-Some.ensures.lowest;
      clean = c.first_unanswered.ensures.clean;
    }

pub returns-in-Some-right_unanswered : goal.returns-in-Some-right_unanswered
returns-in-Some-right_unanswered g c =
    let L = g.L.TransitionSystem.meaning c.args.self.now.left.now in
    let R = g.R.TransitionSystem.meaning c.args.self.now.right.now in
    let B = g.P.Pairing.standing c.args.self.now.pairing.now in
    record {
      judged = right_step L R B _ _ c.requires.leftmost c.requires.rightmost c.requires.stands c.in_default.ensures.lowest _
          c.in-Some-right_unanswered.ensures.lowest;
      clean = c.right_unanswered.ensures.clean;
    }

pub returns-then-not-answers_end : goal.returns-then-not-answers_end
returns-then-not-answers_end g c =
    let L = g.L.TransitionSystem.meaning c.args.self.now.left.now in
    let R = g.R.TransitionSystem.meaning c.args.self.now.right.now in
    let B = g.P.Pairing.standing c.args.self.now.pairing.now in
    record {
      judged = left_end L R B _ _ c.requires.leftmost c.requires.rightmost c.requires.stands c.in_default.ensures.lowest
          c.in_default-right_unanswered.ensures.lowest
          c.if-not-answers_end.ensures.tells;
      clean = c.answers_end.ensures.clean;
    }

pub returns-then-not-answers_right_end : goal.returns-then-not-answers_right_end
returns-then-not-answers_right_end g c =
    let L = g.L.TransitionSystem.meaning c.args.self.now.left.now in
    let R = g.R.TransitionSystem.meaning c.args.self.now.right.now in
    let B = g.P.Pairing.standing c.args.self.now.pairing.now in
    record {
      judged = right_end L R B _ _ c.requires.leftmost c.requires.rightmost c.requires.stands c.in_default.ensures.lowest
          c.in_default-right_unanswered.ensures.lowest
          c.if-not-answers_end.ensures.tells
          c.if-not-answers_right_end.ensures.tells;
      clean = c.answers_right_end.ensures.clean;
    }
