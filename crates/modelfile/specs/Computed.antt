-- The reading as a computation, which the code follows. The promises do not speak of it: it is a way to prove them.
use Rattle.std.specs.Prelude.{ℕ, suc, Bool, true, false, cond, not, List, [], ◌∷◌, ◌++◌, length, Some, None, Option, ◌==◌, nat_lt}
use Rattle.acceptance.specs.Walks.{silent_ring}
use Rattle.processes.specs.declared.equations.Equation.{Equation}
use Rattle.tokens.specs.Forms.{and_then, shape, values}
use Rattle.tokens.specs.Lines.{Raw, raw_lines}
use Rattle.tokens.specs.declared.said.Said.{Said}
use Rattle.transitions.specs.Listed.{listed_joins}
use Rattle.transitions.specs.declared.lines.JoinLine.{JoinLine}
use Rattle.modelfile.specs.declared.faults.Fault.{Fault}
use Rattle.modelfile.specs.declared.faults.Fault.TheVariants.{TooLong, NoForm, NoValue, OutOfTurn, OverLimit, WrongNumber, SilentUsed, SaidBefore, TooMany, NotAssociative, SilentRing, WrongEnd}
use Rattle.modelfile.specs.declared.entries.Entry.{Entry}
use Rattle.modelfile.specs.Accepted.{Room}
use Rattle.modelfile.specs.Entries.{entry_of}
use Rattle.modelfile.specs.Tables.{Tables}
use Rattle.modelfile.specs.Tests.{Sofar, nothing, turn_of, after, out_of_turn, over_limit, wrong_number, silent_used, any, said_before, too_many, start_of}

-- ---- whether the lines are associative, asked of all actions that they name
abbrev pub partners : List JoinLine → List ℕ
partners [] = []
partners (l ∷ ls) = l.a ∷ l.b ∷ partners ls

abbrev pub same_answer : Option ℕ → Option ℕ → Bool
same_answer None None = true
same_answer None (Some b) = false
same_answer (Some a) None = false
same_answer (Some a) (Some b) = a == b

abbrev pub left_first : List JoinLine → ℕ → ℕ → ℕ → Option ℕ
left_first ls a b c = and_then (listed_joins ls a b) (λ d. listed_joins ls d c)

abbrev pub right_first : List JoinLine → ℕ → ℕ → ℕ → Option ℕ
right_first ls a b c = and_then (listed_joins ls b c) (λ d. listed_joins ls a d)

abbrev pub not_associative : List JoinLine → Bool
not_associative ls = any (λ a. any (λ b. any (λ c. not (same_answer (left_first ls a b c) (right_first ls a b c))) (partners ls)) (partners ls)) (partners ls)

-- ---- the fault of a line: the first test that holds
abbrev pub at_start : Bool → Option ℕ → Bool
at_start b None = false
at_start b (Some n) = b

pub data Test : Type 0 where
  test : Fault → Bool → Test

abbrev pub first_fault : List Test → Option Fault
first_fault [] = None
first_fault (test k b ∷ ts) = cond b (Some k) (first_fault ts)

-- What is said by its numbers, behind so many variables and terms.
abbrev pub early_tests : ℕ → ℕ → ℕ → Said → List Test
early_tests turn variables terms s =
    test OutOfTurn (out_of_turn turn (turn_of s))
    ∷ test OverLimit (over_limit variables s)
    ∷ test WrongNumber (wrong_number terms s)
    ∷ test SilentUsed (silent_used s)
    ∷ []

-- The start line, behind lines and equations.
abbrev pub start_tests : List JoinLine → List Equation → List Test
start_tests ls es = test NotAssociative (not_associative ls) ∷ test SilentRing (silent_ring es) ∷ []

-- The entry that it adds, behind what has been read.
abbrev pub late_tests : Room → Sofar → Entry → List Test
late_tests R S e =
    test SaidBefore (said_before S e)
    ∷ test TooMany (too_many R (length S.lines) (length S.equations) (length S.terms) e)
    ∷ test NotAssociative (at_start (not_associative S.lines) (start_of e))
    ∷ test SilentRing (at_start (silent_ring S.equations) (start_of e))
    ∷ []

abbrev pub tests_of : Room → Sofar → Said → List Test
tests_of R S s = early_tests S.turn S.variables (length S.terms) s ++ late_tests R S (entry_of s)

abbrev pub fault_said : Room → Sofar → Said → Option Fault
fault_said R S s = first_fault (tests_of R S s)

pub data Judged : Type 0 where
  faulty : Fault → Judged
  fine : Said → Judged

abbrev pub judged : Room → Sofar → Raw → Judged
judged R S l = elim (shape l) [ None ↦ faulty NoForm | Some h ↦ elim (values h) [ None ↦ faulty NoValue | Some s ↦ elim (fault_said R S s) [ Some k ↦ faulty k | None ↦ fine s ] ] ]

-- ---- the lines from line i on, behind what has been read
pub data Answer : Type 0 where
  read : Tables → Answer
  refused_at : Fault → ℕ → Answer

abbrev pub ended : ℕ → Sofar → ℕ → List Raw → Answer
ended i S n [] = read (record { variables = S.variables; lines = S.lines; equations = S.equations; terms = S.terms; start = n })
ended i S n (l ∷ ls) = refused_at WrongEnd (suc i)

abbrev pub read_lines : Room → ℕ → Sofar → List Raw → Answer
read_lines R i S [] = refused_at WrongEnd i
read_lines R i S (l ∷ ls) = elim (judged R S l) [
  | faulty k ↦ refused_at k i
  | fine s ↦ elim (start_of (entry_of s)) [ Some n ↦ ended i S n ls | None ↦ read_lines R (suc i) (after S (entry_of s)) ls ]
]

abbrev pub reading : Room → List ℕ → Answer
reading R bytes = elim (nat_lt 32768 (length bytes)) [ true ↦ refused_at TooLong 0 | false ↦ read_lines R 1 nothing (raw_lines bytes) ]
