use Rattle.std.proofs.Common.{subst, rules}
use Rattle.auditing.specs.Telling.{Room, of_verdict}
use Rattle.auditing.proofs.Lending.{answer_is, part_lent, lent_marks, lent_queue, when_more, when_judged, by_verdict}
use Rattle.judging.proofs.Replying.{both_none}
use Rattle.judging.specs.Judged.{Says}
use Rattle.sheets.specs.Calls.{without_why, removing}
use Rattle.sheets.specs.Sheets.{rows_of, columns_of, standing}
use Rattle.auditing.proofs.making.without_lent.Goals as goal

pub returns : goal.returns
returns g c =
    let v = c.args.sheet.now in
    let L = g.L.TransitionSystem.meaning c.args.left.now in
    let R = g.R.TransitionSystem.meaning c.args.right.now in
    let told = c.without-verdict.ensures.judged in
    let told_it = answer_is of_verdict c.without-verdict.result c.map_or_else.result _ _ (λ v h. search rules) (λ f h. search rules) c.map_or_else.ensures in
    let free = when_more c.without-verdict.result (λ w. (both_none _ _ w).0) (when_judged _ L R (removing (standing v) c.args.s c.args.t) c.without-verdict.result told.says) in
    record {
      kept = c.without-verdict.ensures.kept;
      after = c.without-verdict.ensures.pairs;
      tells = (
        c.without-verdict.result,
        told_it,
        subst (λ (z : Room). Says (without_why (rows_of v) (columns_of v) L R z.marks z.queue (standing v) c.args.s c.args.t) L R (removing (standing v) c.args.s c.args.t) c.without-verdict.result)
            (part_lent c.args.marks.now c.args.queue.now c.args.lent c.min-m.result c.min-q.result c.min-m.ensures c.min-q.ensures) told.says,
      );
      marks = by_verdict c.without-verdict.result c.map_or_else.result _ _ _ told_it
          (lent_marks c.without-verdict.result (rows_of v) (columns_of v) L R c.args.marks.now c.args.queue.now c.without-verdict.new.marks c.args.lent c.min-m.result c.min-q.result c.min-m.ensures c.min-q.ensures free c.without-verdict.auto.marks told.marks);
      queue = by_verdict c.without-verdict.result c.map_or_else.result _ _ _ told_it
          (lent_queue c.without-verdict.result (rows_of v) (columns_of v) L R c.args.marks.now c.args.queue.now c.without-verdict.new.queue c.args.lent c.min-m.result c.min-q.result c.min-m.ensures c.min-q.ensures free c.without-verdict.auto.queue told.queue);
    }
