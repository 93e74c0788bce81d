-- When two terms, or two lines of the equations, are the same: sign and operands agree.
use Rattle.std.specs.Prelude.{ℕ, Bool, false, ◌&&◌, ◌==◌}
use Rattle.processes.specs.declared.equations.Equation.{Equation}
use Rattle.processes.specs.declared.equations.Equation.TheVariants.{Ends, Becomes}
use Rattle.processes.specs.declared.terms.Term.{Term}
use Rattle.processes.specs.declared.terms.Term.TheVariants.{Action, Deadlock, Variable, Choice, Sequence, Merge, LeftMerge, CommMerge, Block, Hide}

-- The sign of a term, as the byte that writes it.
abbrev pub sign : Term → ℕ
sign (Action a) = 97
sign Deadlock = 100
sign (Variable x) = 118
sign (Choice p q) = 43
sign (Sequence p q) = 46
sign (Merge p q) = 109
sign (LeftMerge p q) = 108
sign (CommMerge p q) = 106
sign (Block p set) = 98
sign (Hide p set) = 104

-- The first and the second operand, an unused one 0.
abbrev pub first : Term → ℕ
first (Action a) = a
first Deadlock = 0
first (Variable x) = x
first (Choice p q) = p
first (Sequence p q) = p
first (Merge p q) = p
first (LeftMerge p q) = p
first (CommMerge p q) = p
first (Block p set) = p
first (Hide p set) = p

abbrev pub second : Term → ℕ
second (Action a) = 0
second Deadlock = 0
second (Variable x) = 0
second (Choice p q) = q
second (Sequence p q) = q
second (Merge p q) = q
second (LeftMerge p q) = q
second (CommMerge p q) = q
second (Block p set) = set
second (Hide p set) = set

abbrev pub same_term : Term → Term → Bool
same_term s t = sign s == sign t && first s == first t && second s == second t

abbrev pub same_equation : Equation → Equation → Bool
same_equation (Ends x a) (Ends y b) = x == y && a == b
same_equation (Ends x a) (Becomes y b z) = false
same_equation (Becomes x a z) (Ends y b) = false
same_equation (Becomes x a z) (Becomes y b w) = x == y && a == b && z == w
