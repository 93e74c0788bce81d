-- The entries of terms and equations.
use Rattle.exports.specs.declared.entries.EquationEntry.{EquationEntry}
use Rattle.exports.specs.declared.entries.TermEntry.{TermEntry}
use Rattle.processes.specs.Sameness.{sign, first, second}
use Rattle.processes.specs.declared.equations.Equation.{Equation}
use Rattle.processes.specs.declared.equations.Equation.TheVariants.{Ends, Becomes}
use Rattle.processes.specs.declared.terms.Term.{Term}

abbrev pub of_term : Term → TermEntry
of_term t = record { sign = sign t; first = first t; second = second t }

abbrev pub of_equation : Equation → EquationEntry
of_equation (Ends x a) = record { letter = 102; variable = x; action = a; next = 0 }
of_equation (Becomes x a y) = record { letter = 101; variable = x; action = a; next = y }
