use Rattle.std.proofs.Common.{subst, rules}
use Rattle.auditing.specs.Telling.{Room, of_reply}
use Rattle.auditing.proofs.Lending.{answer_is, part_lent, lent_marks, lent_queue, when_more, when_replied, by_reply}
use Rattle.judging.proofs.Replying.{both_none}
use Rattle.judging.specs.Replies.{ReplySays}
use Rattle.sheets.specs.Calls.{reply_why}
use Rattle.sheets.specs.Sheets.{rows_of, columns_of, standing}
use Rattle.auditing.proofs.making.reply_lent.Goals as goal

pub returns : goal.returns
returns g c =
    let v = c.args.sheet.now in
    let L = g.L.TransitionSystem.meaning c.args.left.now in
    let R = g.R.TransitionSystem.meaning c.args.right.now in
    let told = c.reply-reply.ensures in
    let told_it = answer_is of_reply c.reply-reply.result c.map_or_else.result _ _ (λ v h. search rules) (λ f h. search rules) c.map_or_else.ensures in
    let free = when_more c.reply-reply.result (λ w. (both_none _ _ w).0) (when_replied _ L R (standing v) c.args.ask c.reply-reply.result told.says) in
    record {
      tells = (
        c.reply-reply.result,
        told_it,
        subst (λ (z : Room). ReplySays (reply_why (rows_of v) (columns_of v) L R z.marks z.queue (standing v) c.args.ask) L R (standing v) c.args.ask c.reply-reply.result)
            (part_lent c.args.marks.now c.args.queue.now c.args.lent c.min-m.result c.min-q.result c.min-m.ensures c.min-q.ensures) told.says,
      );
      marks = by_reply c.reply-reply.result c.map_or_else.result _ _ _ told_it
          (lent_marks c.reply-reply.result (rows_of v) (columns_of v) L R c.args.marks.now c.args.queue.now c.reply-reply.new.marks c.args.lent c.min-m.result c.min-q.result c.min-m.ensures c.min-q.ensures free c.reply-reply.auto.marks told.marks);
      queue = by_reply c.reply-reply.result c.map_or_else.result _ _ _ told_it
          (lent_queue c.reply-reply.result (rows_of v) (columns_of v) L R c.args.marks.now c.args.queue.now c.reply-reply.new.queue c.args.lent c.min-m.result c.min-q.result c.min-m.ensures c.min-q.ensures free c.reply-reply.auto.queue told.queue);
    }
