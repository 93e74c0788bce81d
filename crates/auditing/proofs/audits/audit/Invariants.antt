use Rattle.auditing.proofs.Folding.{SoFar}
use Rattle.sheets.specs.Sheets.{rows_of, columns_of}
use Rattle.auditing.proofs.audits.audit.Given as goal

abbrev pub invariant-loop-i : goal.invariant-loop-i
invariant-loop-i g l =
    SoFar g.L.TransitionSystem.meaning g.R.TransitionSystem.meaning
    (record { lender = l.initial.sheet.bytes.ghost_name; rows = rows_of l.initial.sheet; columns = columns_of l.initial.sheet; scratch = record { marks = l.initial.marks; queue = l.initial.queue } })
    l.calls l.i l.answers l.marks l.queue l.sheet
