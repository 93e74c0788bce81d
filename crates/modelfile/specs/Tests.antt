-- What has been read so far, and what can be wrong with a line behind it.
use Rattle.std.specs.Prelude.{ℕ, zero, suc, ◌%◌, Bool, false, not, ◌||◌, List, [], ◌∷◌, ◌++◌, Some, None, Option, ◌==◌, nat_le, nat_lt}
pub use Rattle.acceptance.specs.Walks.{any}
use Rattle.processes.specs.Sameness.{same_equation, same_term}
use Rattle.processes.specs.declared.equations.Equation.{Equation}
use Rattle.processes.specs.declared.terms.Term.{Term}
use Rattle.tokens.specs.declared.said.Said.{Said}
use Rattle.tokens.specs.declared.said.Said.TheVariants.{Variables, Joins, Becomes, Ends, Gives, Starts}
use Rattle.tokens.specs.declared.token.Kind.{Kind}
use Rattle.tokens.specs.declared.token.Kind.TheVariants.{Action, Deadlock, Variable, Choice, Sequence, Merge, LeftMerge, CommMerge, Block, Hide}
use Rattle.transitions.specs.Listed.{names}
use Rattle.transitions.specs.declared.lines.JoinLine.{JoinLine}
use Rattle.modelfile.specs.Accepted.{Room}
use Rattle.modelfile.specs.declared.entries.Entry.{Entry}
use Rattle.modelfile.specs.declared.entries.Entry.TheVariants as entry

-- `turn` is 0 before the first line, and then one more than the turn of the last line.
pub record Sofar : Type 0 where
  pub turn : ℕ
  pub variables : ℕ
  pub lines : List JoinLine
  pub equations : List Equation
  pub terms : List Term

abbrev pub nothing : Sofar
nothing = record { turn = 0; variables = 0; lines = []; equations = []; terms = [] }

-- The turn of a line: variables, communications, equations, terms, start.
abbrev pub turn_of : Said → ℕ
turn_of (Variables v) = 0
turn_of (Joins a b r) = 1
turn_of (Becomes x a y) = 2
turn_of (Ends x a) = 2
turn_of (Gives n k p q) = 3
turn_of (Starts n) = 4

-- What has been read once the entry is added.
abbrev pub after : Sofar → Entry → Sofar
after S (entry.Variables v) = record { turn = 1; variables = v; lines = S.lines; equations = S.equations; terms = S.terms }
after S (entry.Joins l) = record { turn = 2; variables = S.variables; lines = S.lines ++ (l ∷ []); equations = S.equations; terms = S.terms }
after S (entry.Does e) = record { turn = 3; variables = S.variables; lines = S.lines; equations = S.equations ++ (e ∷ []); terms = S.terms }
after S (entry.Gives t) = record { turn = 4; variables = S.variables; lines = S.lines; equations = S.equations; terms = S.terms ++ (t ∷ []) }
after S (entry.Starts n) = record { turn = 5; variables = S.variables; lines = S.lines; equations = S.equations; terms = S.terms }

-- 4: the first line and no other gives the variables, and no line comes behind a later turn.
abbrev pub out_of_turn : ℕ → ℕ → Bool
out_of_turn zero t = not (t == 0)
out_of_turn (suc k) t = t == 0 || nat_lt t k

-- 5: of v variables, one over its limit; an action over 63; an unused operand that is not 0.
abbrev pub term_over_limit : ℕ → Kind → ℕ → ℕ → Bool
term_over_limit v Action p q = nat_lt 63 p || not (q == 0)
term_over_limit v Deadlock p q = not (p == 0) || not (q == 0)
term_over_limit v Variable p q = nat_le v p || not (q == 0)
term_over_limit v Choice p q = false
term_over_limit v Sequence p q = false
term_over_limit v Merge p q = false
term_over_limit v LeftMerge p q = false
term_over_limit v CommMerge p q = false
term_over_limit v Block p q = false
term_over_limit v Hide p q = false

abbrev pub over_limit : ℕ → Said → Bool
over_limit v (Variables w) = nat_lt 256 w
over_limit v (Joins a b r) = nat_lt 63 a || nat_lt 63 b || nat_lt 63 r
over_limit v (Becomes x a y) = nat_le v x || nat_lt 63 a || nat_le v y
over_limit v (Ends x a) = nat_le v x || nat_lt 63 a
over_limit v (Gives n k p q) = term_over_limit v k p q
over_limit v (Starts n) = false

-- Not a term before n.
abbrev pub not_before : ℕ → ℕ → Bool
not_before n p = p == 0 || nat_le n p

abbrev pub operand_not_before : ℕ → Kind → ℕ → ℕ → Bool
operand_not_before n Action p q = false
operand_not_before n Deadlock p q = false
operand_not_before n Variable p q = false
operand_not_before n Choice p q = not_before n p || not_before n q
operand_not_before n Sequence p q = not_before n p || not_before n q
operand_not_before n Merge p q = not_before n p || not_before n q
operand_not_before n LeftMerge p q = not_before n p || not_before n q
operand_not_before n CommMerge p q = not_before n p || not_before n q
operand_not_before n Block p q = not_before n p
operand_not_before n Hide p q = not_before n p

-- 6: behind m terms, a term that is not the next, an operand that is no earlier term, or a start that is no given term.
abbrev pub wrong_number : ℕ → Said → Bool
wrong_number m (Variables v) = false
wrong_number m (Joins a b r) = false
wrong_number m (Becomes x a y) = false
wrong_number m (Ends x a) = false
wrong_number m (Gives n k p q) = not (n == suc m) || operand_not_before n k p q
wrong_number m (Starts n) = not_before (suc m) n

abbrev pub odd_set : Kind → ℕ → Bool
odd_set Action q = false
odd_set Deadlock q = false
odd_set Variable q = false
odd_set Choice q = false
odd_set Sequence q = false
odd_set Merge q = false
odd_set LeftMerge q = false
odd_set CommMerge q = false
odd_set Block q = q % 2 == 1
odd_set Hide q = q % 2 == 1

-- 7: the silent action 0 in a communication, or in a set.
abbrev pub silent_used : Said → Bool
silent_used (Variables v) = false
silent_used (Joins a b r) = a == 0 || b == 0 || r == 0
silent_used (Becomes x a y) = false
silent_used (Ends x a) = false
silent_used (Gives n k p q) = odd_set k q
silent_used (Starts n) = false

-- 8: an earlier line names the same pair, says the same of a variable, or gives the same term.
abbrev pub said_before : Sofar → Entry → Bool
said_before S (entry.Variables v) = false
said_before S (entry.Joins l) = any (λ k. names k l.a l.b) S.lines
said_before S (entry.Does e) = any (λ d. same_equation d e) S.equations
said_before S (entry.Gives t) = any (λ s. same_term s t) S.terms
said_before S (entry.Starts n) = false

-- Neither the limit nor the entries handed over leave room behind `count` entries.
abbrev pub full : ℕ → ℕ → ℕ → Bool
full limit room count = nat_le limit count || nat_le room count

-- 9: behind so many lines, equations and terms, one too many.
abbrev pub too_many : Room → ℕ → ℕ → ℕ → Entry → Bool
too_many R ls es ts (entry.Variables v) = false
too_many R ls es ts (entry.Joins l) = full 32 R.for_lines ls
too_many R ls es ts (entry.Does e) = full 1024 R.for_equations es
too_many R ls es ts (entry.Gives t) = full 256 R.for_terms ts
too_many R ls es ts (entry.Starts n) = false

-- The start term that an entry names.
abbrev pub start_of : Entry → Option ℕ
start_of (entry.Variables v) = None
start_of (entry.Joins l) = None
start_of (entry.Does e) = None
start_of (entry.Gives t) = None
start_of (entry.Starts n) = Some n
