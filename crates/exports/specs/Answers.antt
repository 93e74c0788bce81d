-- The numbers of answers.
use Rattle.std.specs.Prelude.{◌≡◌, ℕ, List, Some, None, Ok, Err, Option, Result}
use Rattle.exports.specs.declared.answers.Answer.{Answer}
use Rattle.exports.specs.declared.files.Reading.{Reading}
use Rattle.exports.specs.declared.files.Unfolding.{Unfolding}
use Rattle.exports.specs.declared.files.Writing.{Writing}
use Rattle.modelfile.specs.Faults.{number_of}
use Rattle.modelfile.specs.Promise.{IsRead}
use Rattle.modelfile.specs.declared.answers.Counts as filled
use Rattle.modelfile.specs.declared.answers.Refusal as refused
use Rattle.pairings.specs.Faults.{number}
use Rattle.pairings.specs.declared.faults.Fault.{Fault}
use Rattle.processes.specs.declared.equations.Equation.{Equation}
use Rattle.processes.specs.declared.terms.Term.{Term}
use Rattle.tables.specs.Meanings.{of_table}
use Rattle.tables.specs.Text.{text_of, IsText}
use Rattle.tables.specs.declared.steps_table.Table.{Table}
use Rattle.transitions.specs.Verdict.{figures}
use Rattle.transitions.specs.declared.lines.JoinLine.{JoinLine}
use Rattle.transitions.specs.declared.replies.Reply.{Reply}
use Rattle.transitions.specs.declared.replies.Reply.TheVariants.{Stays, Moves}
use Rattle.transitions.specs.declared.steps.Step.{Step}
use Rattle.transitions.specs.Verdict.{Verdict}
use Rattle.unfolding.specs.Model.{IsModel}
use Rattle.unfolding.specs.Promise.{IsUnfolded}
use Rattle.unfolding.specs.Refusals.{refusal_number}
use Rattle.unfolding.specs.declared.counts.Counts.{Counts}
use Rattle.unfolding.specs.declared.refusals.Refusal.{Refusal}

-- ---- files

abbrev pub of_reading : Result filled.Counts refused.Refusal → Reading
of_reading (Ok n) = record { number = 0; line = 0; variables = n.variables; lines = n.lines; equations = n.equations; terms = n.terms; start = n.start }
of_reading (Err e) = record { number = number_of e.fault; line = e.line; variables = 0; lines = 0; equations = 0; terms = 0; start = 0 }

abbrev pub of_unfolding : Result Counts Refusal → Unfolding
of_unfolding (Ok n) = record { number = 0; terms = n.terms; steps = n.steps; start = n.start }
of_unfolding (Err e) = record { number = refusal_number e; terms = 0; steps = 0; start = 0 }

abbrev pub of_writing : Result ℕ Refusal → Writing
of_writing (Ok end) = record { number = 0; length = end }
of_writing (Err e) = record { number = refusal_number e; length = 0 }

-- The answer tells of a reading of the bytes into these lines and some equations and terms.
abbrev pub Reads : List ℕ → List JoinLine → List JoinLine → Reading → Type 0
Reads bytes ls ls' a =
    (es : List Equation) × (ts : List Term) × (es' : List Equation) × (ts' : List Term) × (q : Result filled.Counts refused.Refusal) × (IsRead bytes ls es ts ls' es' ts' q × (a ≡ of_reading q))

-- The answer tells of an unfolding of these lines and some equations and terms into these steps and row ends and some terms.
abbrev pub Unfolds : List JoinLine → ℕ → List Step → List Step → List ℕ → List ℕ → Unfolding → Type 0
Unfolds lines start steps steps' ends ends' a =
    (es : List Equation) × (file : List Term) × (ts : List Term) × (ts' : List Term) × (q : Result Counts Refusal) × (IsUnfolded lines es file start ts ts' steps steps' ends ends' q × (a ≡ of_unfolding q))

-- The answer tells of the text of a table made of these row ends, steps and counts, written into this buffer.
abbrev pub Writes : List ℕ → List Step → Counts → List ℕ → List ℕ → Writing → Type 0
Writes ends steps n buffer buffer' a =
    (v : Table) × (q : Result ℕ Refusal) × (IsModel steps ends n (of_table v) × (IsText buffer buffer' (text_of v) q × (a ≡ of_writing q)))

-- ---- calls on a sheet

-- Kind 0 is done, 1 a verdict by its figures, 2 a reply (number 0 stays, 1 moves to a state and a place, 2 none), 3 a refusal.
abbrev pub of_fault : Fault → Answer
of_fault f = record { kind = 3; number = number f; left = 0; right = 0; side = 0; place = 0 }

abbrev pub of_change : Result (Unit {0}) Fault → Answer
of_change (Ok _) = record { kind = 0; number = 0; left = 0; right = 0; side = 0; place = 0 }
of_change (Err f) = of_fault f

abbrev pub of_verdict : Result Verdict Fault → Answer
of_verdict (Ok v) = record { kind = 1; number = (figures v).kind; left = (figures v).left; right = (figures v).right; side = (figures v).side; place = (figures v).place }
of_verdict (Err f) = of_fault f

abbrev pub of_reply : Result (Option Reply) Fault → Answer
of_reply (Ok (Some Stays)) = record { kind = 2; number = 0; left = 0; right = 0; side = 0; place = 0 }
of_reply (Ok (Some (Moves state place))) = record { kind = 2; number = 1; left = state; right = 0; side = 0; place = place }
of_reply (Ok None) = record { kind = 2; number = 2; left = 0; right = 0; side = 0; place = 0 }
of_reply (Err f) = of_fault f

-- The answer tells of some verdict or refusal.
abbrev pub VerdictTold : Answer → Type 0
VerdictTold a = (q : Result Verdict Fault) × (a ≡ of_verdict q)
