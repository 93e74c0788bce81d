-- Which communication lines, equations, terms and start a model file may hold. A file has at most 256 variables, and every
-- variable here is below 256.
use Rattle.std.specs.Prelude.{◌≡◌, ℕ, ◌+◌, ◌%◌, ◌<◌, ◌≤◌, List, length, slice_index_or}
use mathlib.Core.List.{Memᴰ}
use Rattle.rows.specs.Found.{NoneTwice}
use Rattle.processes.specs.declared.equations.Equation.{Equation}
use Rattle.processes.specs.declared.equations.Equation.TheVariants.{Ends, Becomes}
use Rattle.processes.specs.declared.terms.Term.{Term}
use Rattle.processes.specs.declared.terms.Term.TheVariants.{Action, Deadlock, Variable, Choice, Sequence, Merge, LeftMerge, CommMerge, Block, Hide}
use Rattle.transitions.specs.Listed.{Acceptable}
use Rattle.transitions.specs.declared.lines.JoinLine.{JoinLine}

-- The action of a line is at most 63.
abbrev pub EquationFits : Equation → Type 0
EquationFits (Ends x a) = a < 64
EquationFits (Becomes x a y) = a < 64

abbrev pub equation_at : List Equation → ℕ → Equation
equation_at equations k = slice_index_or equations k (Ends 0 0)

-- By one silent line or more, x becomes y.
pub data Silently (equations : List Equation) : ℕ → ℕ → Type 0 where
  one : {x y : ℕ} → Memᴰ (Becomes x 0 y) equations → Silently equations x y
  more : {x y z : ℕ} → Memᴰ (Becomes x 0 y) equations → Silently equations y z → Silently equations x z

-- No silent lines run in a ring.
abbrev pub NoRing : List Equation → Type 0
NoRing equations = (x : ℕ) → Silently equations x x → ⊥

abbrev pub Earlier : ℕ → ℕ → Type 0
Earlier n p = (0 < p) × (p < n)

-- A set without the silent action.
abbrev pub VisibleSet : ℕ → Type 0
VisibleSet set = set % 2 ≡ 0

-- The operands of term n: earlier terms, an action of at most 63, and sets without the silent action.
abbrev pub TermFits : ℕ → Term → Type 0
TermFits n (Action a) = a < 64
TermFits n Deadlock = Unit
TermFits n (Variable x) = Unit
TermFits n (Choice p q) = Earlier n p × Earlier n q
TermFits n (Sequence p q) = Earlier n p × Earlier n q
TermFits n (Merge p q) = Earlier n p × Earlier n q
TermFits n (LeftMerge p q) = Earlier n p × Earlier n q
TermFits n (CommMerge p q) = Earlier n p × Earlier n q
TermFits n (Block p set) = Earlier n p × VisibleSet set
TermFits n (Hide p set) = Earlier n p × VisibleSet set

-- The term of place k, whose number is k + 1.
abbrev pub entry_at : List Term → ℕ → Term
entry_at terms k = slice_index_or terms k (Action 0)

pub record Accepted (lines : List JoinLine) (equations : List Equation) (terms : List Term) (start : ℕ) : Type 0 where
  pub lines_fit : Acceptable lines
  pub equations_few : length equations ≤ 1024
  pub equations_fit : (k : ℕ) → k < length equations → EquationFits (equation_at equations k)
  pub equations_once : NoneTwice equations
  pub no_ring : NoRing equations
  pub terms_few : length terms ≤ 256
  pub terms_fit : (k : ℕ) → k < length terms → TermFits (k + 1) (entry_at terms k)
  pub terms_once : NoneTwice terms
  pub started : Earlier (length terms + 1) start
