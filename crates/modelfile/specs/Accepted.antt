-- Which tables a model file may hold, where so many entries are handed over for each.
use Rattle.std.specs.Prelude.{ℕ, ◌^◌, ◌<◌, ◌≤◌, length}
use Rattle.acceptance.specs.Accepted.{equation_at, entry_at, Accepted as Tables-accepted}
use Rattle.processes.specs.declared.equations.Equation.{Equation}
use Rattle.processes.specs.declared.equations.Equation.TheVariants.{Ends, Becomes}
use Rattle.processes.specs.declared.terms.Term.{Term}
use Rattle.processes.specs.declared.terms.Term.TheVariants.{Action, Deadlock, Variable, Choice, Sequence, Merge, LeftMerge, CommMerge, Block, Hide}
use Rattle.modelfile.specs.Tables.{Tables}

pub record Room : Type 0 where
  pub for_lines : ℕ
  pub for_equations : ℕ
  pub for_terms : ℕ

-- The variables of an equation are below v.
abbrev pub EquationBelow : ℕ → Equation → Type 0
EquationBelow v (Ends x a) = x < v
EquationBelow v (Becomes x a y) = (x < v) × (y < v)

-- The variable of a term is below v, and its set is one of 64 bits.
abbrev pub TermBelow : ℕ → Term → Type 0
TermBelow v (Action a) = Unit {0}
TermBelow v Deadlock = Unit {0}
TermBelow v (Variable x) = x < v
TermBelow v (Choice p q) = Unit {0}
TermBelow v (Sequence p q) = Unit {0}
TermBelow v (Merge p q) = Unit {0}
TermBelow v (LeftMerge p q) = Unit {0}
TermBelow v (CommMerge p q) = Unit {0}
TermBelow v (Block p set) = set < 2 ^ 64
TermBelow v (Hide p set) = set < 2 ^ 64

pub record Accepted (R : Room) (t : Tables) : Type 0 where
  pub tables : Tables-accepted t.lines t.equations t.terms t.start
  pub variables_few : t.variables ≤ 256
  pub equations_below : (k : ℕ) → k < length t.equations → EquationBelow t.variables (equation_at t.equations k)
  pub terms_below : (k : ℕ) → k < length t.terms → TermBelow t.variables (entry_at t.terms k)
  pub lines_room : length t.lines ≤ R.for_lines
  pub equations_room : length t.equations ≤ R.for_equations
  pub terms_room : length t.terms ≤ R.for_terms
