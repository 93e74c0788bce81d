use Rattle.std.proofs.Common.{subst, rules}
use Rattle.auditing.specs.Telling.{Room, of_verdict}
use Rattle.auditing.proofs.Lending.{answer_is, part_lent, lent_marks, lent_queue, when_judged, by_verdict}
use Rattle.judging.specs.Judged.{Says}
use Rattle.sheets.specs.Calls.{judge_why}
use Rattle.sheets.specs.Sheets.{rows_of, columns_of, standing}
use Rattle.auditing.proofs.making.judge_lent.Goals as goal

pub returns : goal.returns
returns g c =
    let v = c.args.sheet.now in
    let L = g.L.TransitionSystem.meaning c.args.left.now in
    let R = g.R.TransitionSystem.meaning c.args.right.now in
    let told = c.judge-verdict.ensures in
    let told_it = answer_is of_verdict c.judge-verdict.result c.map_or_else.result _ _ (λ v h. search rules) (λ f h. search rules) c.map_or_else.ensures in
    let free = when_judged _ L R (standing v) c.judge-verdict.result told.says in
    record {
      tells = (
        c.judge-verdict.result,
        told_it,
        subst (λ (z : Room). Says (judge_why (rows_of v) (columns_of v) L R z.marks z.queue) L R (standing v) c.judge-verdict.result)
            (part_lent c.args.marks.now c.args.queue.now c.args.lent c.min-m.result c.min-q.result c.min-m.ensures c.min-q.ensures) told.says,
      );
      marks = by_verdict c.judge-verdict.result c.map_or_else.result _ _ _ told_it
          (lent_marks c.judge-verdict.result (rows_of v) (columns_of v) L R c.args.marks.now c.args.queue.now c.judge-verdict.new.marks c.args.lent c.min-m.result c.min-q.result c.min-m.ensures c.min-q.ensures free c.judge-verdict.auto.marks told.marks);
      queue = by_verdict c.judge-verdict.result c.map_or_else.result _ _ _ told_it
          (lent_queue c.judge-verdict.result (rows_of v) (columns_of v) L R c.args.marks.now c.args.queue.now c.judge-verdict.new.queue c.args.lent c.min-m.result c.min-q.result c.min-m.ensures c.min-q.ensures free c.judge-verdict.auto.queue told.queue);
    }
