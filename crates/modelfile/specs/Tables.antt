-- The tables that a model file holds, and their one text.
use Rattle.std.specs.Prelude.{ℕ, zero, suc, ◌+◌, ◌/◌, ◌%◌, ◌^◌, cond, List, [], ◌∷◌, ◌++◌, decimal, nat_lt}
use Rattle.processes.specs.Sameness.{first, second}
use Rattle.processes.specs.declared.equations.Equation.{Equation}
use Rattle.processes.specs.declared.equations.Equation.TheVariants as equation
use Rattle.processes.specs.declared.terms.Term.{Term}
use Rattle.processes.specs.declared.terms.Term.TheVariants as term
use Rattle.tokens.specs.Forms.{sign_byte}
use Rattle.tokens.specs.declared.said.Said.{Said}
use Rattle.tokens.specs.declared.said.Said.TheVariants.{Variables, Joins, Becomes, Ends, Gives, Starts}
use Rattle.tokens.specs.declared.token.Kind.{Kind}
use Rattle.tokens.specs.declared.token.Kind.TheVariants.{Action, Deadlock, Variable, Choice, Sequence, Merge, LeftMerge, CommMerge, Block, Hide}
use Rattle.transitions.specs.declared.lines.JoinLine.{JoinLine}

pub record Tables : Type 0 where
  pub variables : ℕ
  pub lines : List JoinLine
  pub equations : List Equation
  pub terms : List Term
  pub start : ℕ

-- A number behind its comma (44).
abbrev pub num : ℕ → List ℕ → List ℕ
num n rest = 44 ∷ (decimal n ++ rest)

-- A set is written in hexadecimal digits, the highest first.
abbrev pub hex_digit : ℕ → ℕ
hex_digit d = cond (nat_lt d 10) (48 + d) (87 + d)

abbrev pub hex_digits : ℕ → ℕ → List ℕ
hex_digits zero s = []
hex_digits (suc k) s = hex_digit ((s / 16 ^ k) % 16) ∷ hex_digits k s

-- The second operand of a term: a set for blocking and hiding, else a number.
abbrev pub second_text : Kind → ℕ → List ℕ
second_text Action q = decimal q
second_text Deadlock q = decimal q
second_text Variable q = decimal q
second_text Choice q = decimal q
second_text Sequence q = decimal q
second_text Merge q = decimal q
second_text LeftMerge q = decimal q
second_text CommMerge q = decimal q
second_text Block q = hex_digits 16 q
second_text Hide q = hex_digits 16 q

-- The text of a line: its letter, its fields, and a line feed (10).
abbrev pub written_line : Said → List ℕ
written_line (Variables v) = 109 ∷ num v (10 ∷ [])
written_line (Joins a b r) = 99 ∷ num a (num b (num r (10 ∷ [])))
written_line (Becomes x a y) = 101 ∷ num x (num a (num y (10 ∷ [])))
written_line (Ends x a) = 102 ∷ num x (num a (10 ∷ []))
written_line (Gives n k p q) = 116 ∷ num n (44 ∷ sign_byte k ∷ num p (44 ∷ (second_text k q ++ (10 ∷ []))))
written_line (Starts n) = 122 ∷ num n (10 ∷ [])

abbrev pub written : List Said → List ℕ
written [] = []
written (s ∷ ss) = written_line s ++ written ss

-- What the line of each entry says.
abbrev pub kind_of : Term → Kind
kind_of (term.Action a) = Action
kind_of term.Deadlock = Deadlock
kind_of (term.Variable x) = Variable
kind_of (term.Choice p q) = Choice
kind_of (term.Sequence p q) = Sequence
kind_of (term.Merge p q) = Merge
kind_of (term.LeftMerge p q) = LeftMerge
kind_of (term.CommMerge p q) = CommMerge
kind_of (term.Block p q) = Block
kind_of (term.Hide p q) = Hide

abbrev pub line_says : JoinLine → Said
line_says l = Joins l.a l.b l.joint

abbrev pub equation_says : Equation → Said
equation_says (equation.Ends x a) = Ends x a
equation_says (equation.Becomes x a y) = Becomes x a y

abbrev pub term_says : ℕ → Term → Said
term_says n t = Gives n (kind_of t) (first t) (second t)

-- The lines of the entries, before the lines of `rest`.
abbrev pub lines_before : List JoinLine → List Said → List Said
lines_before [] rest = rest
lines_before (l ∷ ls) rest = line_says l ∷ lines_before ls rest

abbrev pub equations_before : List Equation → List Said → List Said
equations_before [] rest = rest
equations_before (e ∷ es) rest = equation_says e ∷ equations_before es rest

abbrev pub terms_before : ℕ → List Term → List Said → List Said
terms_before n [] rest = rest
terms_before n (t ∷ ts) rest = term_says n t ∷ terms_before (suc n) ts rest

-- The lines of a file: the count of variables, the communication, the equations, the terms from 1 on, and the start term.
abbrev pub all_lines : Tables → List Said
all_lines t = Variables t.variables ∷ lines_before t.lines (equations_before t.equations (terms_before 1 t.terms (Starts t.start ∷ [])))

-- The one text of the tables.
abbrev pub render : Tables → List ℕ
render t = written (all_lines t)
