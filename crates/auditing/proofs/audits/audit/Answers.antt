use Rattle.std.proofs.Common.{◌≡◌, ℕ, List, sym, ap, ◌∙◌, subst}
use Rattle.auditing.specs.declared.calls.Answer.{Answer}
use Rattle.auditing.specs.Telling.{Room}
use Rattle.auditing.proofs.Folding.{so_far_none, so_far_more, Wrote, wrote_in, wrote_past}
use Rattle.auditing.proofs.Keeping.{promised}
use Rattle.judging.specs.Judged.{Scratch}
use Rattle.auditing.proofs.audits.audit.Goals as goal
use Rattle.auditing.proofs.audits.audit.Goals.{then-i-answers, else-i-answers}

same_room : {a b c d : ℕ} → a ≡ b → c ≡ d → ◌≡◌ {A = Room} (record { marks = a; queue = c }) (record { marks = b; queue = d })
same_room {a} {b} {c} {d} p q = ap (λ (x : ℕ). record { marks = x; queue = c }) p ∙ ap (λ (y : ℕ). record { marks = b; queue = y }) q

pub loop-i-init : goal.loop-i-init
loop-i-init g c = so_far_none _ _ c.args.marks.now c.args.queue.now c.args.calls.now c.args.answers.now c.open-sheet.result c.open-sheet.ensures.none

pub loop-i-preserved : goal.loop-i-preserved
loop-i-preserved g c =
    let wrote : Wrote c.loop-i.i c.make-answer.result c.loop-i.answers c.if-i-answers.answers =
    elim c.if-i-answers.branch [
      | then-i-answers w ↦ subst (λ (xs : List Answer). Wrote c.loop-i.i c.make-answer.result c.loop-i.answers xs) (sym w.answers-is) (wrote_in c.loop-i.i c.make-answer.result c.loop-i.answers)
      | else-i-answers w ↦ subst (λ (xs : List Answer). Wrote c.loop-i.i c.make-answer.result c.loop-i.answers xs) (sym w.answers-is) (wrote_past c.loop-i.i c.make-answer.result c.loop-i.answers w.if-i-answers.false)
    ] in
    so_far_more g.L.TransitionSystem.meaning g.R.TransitionSystem.meaning _ c.args.calls.now c.loop-i.i c.loop-i.answers c.if-i-answers.answers
    c.loop-i.marks c.make-answer.new.marks c.loop-i.queue c.make-answer.new.queue c.loop-i.sheet c.make-answer.new.sheet
    c.index-calls-i.result c.make-answer.result c.loop-i.invariant c.make-answer.ensures.kept c.make-answer.ensures.after c.make-answer.ensures.tells
    c.make-answer.ensures.marks c.make-answer.ensures.queue (same_room c.loop-i.auto.marks c.loop-i.auto.queue) c.loop-i-test.true c.index-calls-i.is wrote

pub returns : goal.returns
returns g c =
    let mid : Scratch = record { marks = c.loop-i.marks; queue = c.loop-i.queue } in
    let mid' : Scratch = record { marks = c.judge-verdict.new.marks; queue = c.judge-verdict.new.queue } in
    let after : Scratch = record { marks = c.reply-reply.new.marks; queue = c.reply-reply.new.queue } in
    promised g.L.TransitionSystem.meaning g.R.TransitionSystem.meaning c.args.bytes _ _ c.args.calls.now
    (g.A.TransitionSystem.meaning c.args.question.now.left.now) (g.B.TransitionSystem.meaning c.args.question.now.right.now)
    (g.A.TransitionSystem.lawful c.args.question.now.left.now) (g.B.TransitionSystem.lawful c.args.question.now.right.now)
    c.args.question.now.ask (record { marks = c.args.marks.now; queue = c.args.queue.now }) c.loop-i.i c.loop-i.answers _ _ _ _ _ mid mid' after
    c.open-sheet.ensures.lent c.open-sheet.ensures.rows c.open-sheet.ensures.columns c.loop-i.invariant c.loop-i-test.false
    c.judge-verdict.ensures (same_room c.loop-i.auto.marks c.loop-i.auto.queue)
    c.reply-reply.ensures (same_room (c.judge-verdict.auto.marks ∙ c.loop-i.auto.marks) (c.judge-verdict.auto.queue ∙ c.loop-i.auto.queue))
