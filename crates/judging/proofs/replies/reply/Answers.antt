use Rattle.std.proofs.Common.{rules}
use Rattle.judging.proofs.Replying.{by_left, by_right, none_both}
use Rattle.judging.proofs.Wiping.{wiped_part}
use Rattle.judging.proofs.replies.reply.Goals as goal

pub returns-in-Left : goal.returns-in-Left
returns-in-Left g c =
    let a = c.in_ok-side.ensures in
    let L = g.L.TransitionSystem.meaning c.args.left.now in
    let R = g.R.TransitionSystem.meaning c.args.right.now in
    let B = g.P.Pairing.standing c.args.pairing.now in
    let asking = rw c.in-Left.is at a.asking in
    record {
      says = (none_both _ _ c.in_ok-check_ready.ensures a.free, (c.in_ok-side.want, a.step, by_left L R B c.args.ask c.in_ok-side.want c.reply_in.result asking c.reply_in.ensures.is));
      marks = wiped_part _ c.max-n.result _ _ (search rules) (search rules) c.reply_in.ensures.clean.no_marks;
      queue = wiped_part _ c.max-n.result _ _ (search rules) (search rules) c.reply_in.ensures.clean.no_queue;
    }

pub returns-in-Right : goal.returns-in-Right
returns-in-Right g c =
    let a = c.in_ok-side.ensures in
    let L = g.L.TransitionSystem.meaning c.args.left.now in
    let R = g.R.TransitionSystem.meaning c.args.right.now in
    let B = g.P.Pairing.standing c.args.pairing.now in
    let asking = rw c.in-Right.is at a.asking in
    record {
      says = (none_both _ _ c.in_ok-check_ready.ensures a.free, (c.in_ok-side.want, a.step, by_right L R B c.args.ask c.in_ok-side.want c.reply_in-in-Right.result asking c.reply_in-in-Right.ensures.is));
      marks = wiped_part _ c.max-n.result _ _ (search rules) (search rules) c.reply_in-in-Right.ensures.clean.no_marks;
      queue = wiped_part _ c.max-n.result _ _ (search rules) (search rules) c.reply_in-in-Right.ensures.clean.no_queue;
    }
