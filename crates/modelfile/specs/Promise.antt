-- What a reading promises.
use Rattle.std.specs.Prelude.{◌≡◌, ℕ, ◌≤◌, List, length, take, drop, Ok, Err, Result, slice_index_or}
use Rattle.processes.specs.declared.equations.Equation.{Equation}
use Rattle.processes.specs.declared.equations.Equation.TheVariants.{Ends}
use Rattle.processes.specs.declared.terms.Term.{Term}
use Rattle.processes.specs.declared.terms.Term.TheVariants.{Action}
use Rattle.transitions.specs.declared.lines.JoinLine.{JoinLine}
use Rattle.modelfile.specs.declared.answers.Counts.{Counts}
use Rattle.modelfile.specs.declared.answers.Refusal.{Refusal}
use Rattle.modelfile.specs.Accepted.{Room, Accepted}
use Rattle.modelfile.specs.Refusals.{Refused}
use Rattle.modelfile.specs.Tables.{Tables, render}

-- The rows handed over give the room, and hold the tables as far as the counts say.
abbrev pub room_is : List JoinLine → List Equation → List Term → Room
room_is ls es ts = record { for_lines = length ls; for_equations = length es; for_terms = length ts }

abbrev pub tables_is : Counts → List JoinLine → List Equation → List Term → Tables
tables_is n ls es ts = record { variables = n.variables; lines = take n.lines ls; equations = take n.equations es; terms = take n.terms ts; start = n.start }

-- The bytes are the one text of the tables, and a model file may hold them.
pub record Holds (R : Room) (bytes : List ℕ) (t : Tables) : Type 0 where
  pub text : bytes ≡ render t
  pub accepted : Accepted R t
  pub few : length bytes ≤ 32768

abbrev pub Zeroed : {A : Type 0} → A → List A → Type 0
Zeroed z xs = (k : ℕ) → slice_index_or xs k z ≡ z

-- The rows handed over, before and after the reading.
module _ (bytes : List ℕ) (ls : List JoinLine) (es : List Equation) (ts : List Term) (ls' : List JoinLine) (es' : List Equation) (ts' : List Term) where
  -- The file holds the tables in the used entries and no others, and the unused entries stay.
  pub record IsModel (n : Counts) : Type 0 where
    pub holds : Holds (room_is ls es ts) bytes (tables_is n ls' es' ts')
    pub no_other : (t : Tables) → Holds (room_is ls es ts) bytes t → t ≡ tables_is n ls' es' ts'
    pub lines_in : n.lines ≤ length ls
    pub equations_in : n.equations ≤ length es
    pub terms_in : n.terms ≤ length ts
    pub past_lines : drop n.lines ls' ≡ drop n.lines ls
    pub past_equations : drop n.equations es' ≡ drop n.equations es
    pub past_terms : drop n.terms ts' ≡ drop n.terms ts

  -- The file holds no tables, it is refused by its first faulty line, and every entry is 0.
  pub record IsRefused (e : Refusal) : Type 0 where
    pub refused : Refused (room_is ls es ts) bytes e.fault e.line
    pub no_model : (t : Tables) → Holds (room_is ls es ts) bytes t → ⊥
    pub lines_cleared : Zeroed (record { a = 0; b = 0; joint = 0 }) ls'
    pub equations_cleared : Zeroed (Ends 0 0) es'
    pub terms_cleared : Zeroed (Action 0) ts'

  abbrev pub IsRead : Result Counts Refusal → Type 0
  IsRead (Ok n) = IsModel n
  IsRead (Err e) = IsRefused e
