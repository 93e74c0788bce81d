-- The code's tables and counts, as what has been read: what the functions inside the reader promise each other.
use Rattle.std.specs.Prelude.{◌≡◌, ℕ, suc, ◌<◌, ◌≤◌, true, false, List, ◌∷◌, length, take, drop, Some, None, Option, Ok, Err, Result, nat_lt}
use Rattle.std.specs.Borrow.{MutBor}
use Rattle.processes.specs.declared.equations.Equation.{Equation}
use Rattle.processes.specs.declared.terms.Term.{Term}
use Rattle.tokens.specs.Lines.{Raw, whole, raw_lines}
use Rattle.tokens.specs.declared.said.Said.{Said}
use Rattle.tokens.specs.declared.said.Said.TheVariants as said
use Rattle.tokens.specs.declared.token.Kind.{Kind}
use Rattle.tokens.specs.declared.token.Kind.TheVariants.{Action, Deadlock, Variable, Choice, Sequence, Merge, LeftMerge, CommMerge, Block, Hide}
use Rattle.transitions.specs.declared.lines.JoinLine.{JoinLine}
use Rattle.modelfile.specs.declared.answers.Counts.{Counts}
use Rattle.modelfile.specs.declared.answers.Refusal.{Refusal}
use Rattle.modelfile.specs.declared.entries.Entry.{Entry}
use Rattle.modelfile.specs.declared.entries.Entry.TheVariants as entry
use Rattle.modelfile.specs.declared.filling.Filling.{Filling}
use Rattle.modelfile.specs.declared.filling.Section.{Section}
use Rattle.modelfile.specs.declared.filling.Section.TheVariants as section
use Rattle.modelfile.specs.Accepted.{Room}
use Rattle.modelfile.specs.declared.faults.Fault.{Fault}
use Rattle.modelfile.specs.declared.faults.Fault.TheVariants.{TooLong}
use Rattle.modelfile.specs.Computed.{Test, first_fault, fault_said, judged, faulty, fine, Answer, read_lines, ended, refused_at, reading, read}
use Rattle.modelfile.specs.Entries.{entry_of}
use Rattle.modelfile.specs.Promise.{room_is, tables_is}
use Rattle.modelfile.specs.Tests.{Sofar, after, said_before}

-- The turn of a section's lines, and the turn once a line of the section is read: 0 before the first line.
abbrev pub place_of : Section → ℕ
place_of section.Variables = 0
place_of section.Joins = 1
place_of section.Equations = 2
place_of section.Terms = 3
place_of section.Start = 4

abbrev pub turn_after : Option Section → ℕ
turn_after None = 0
turn_after (Some s) = suc (place_of s)

-- What has been read.
abbrev pub seen : Filling → Sofar
seen f = record { turn = turn_after f.section; variables = f.variables; lines = take f.line_count f.lines.now; equations = take f.equation_count f.equations.now; terms = take f.term_count f.terms.now }

-- The room that the rows give.
abbrev pub room_of : Filling → Room
room_of f = room_is f.lines.now f.equations.now f.terms.now

-- The same row, filled further: the entries past its end are as they were.
pub record Grows {A : Type 0} (n : ℕ) (r : MutBor (List A)) (n' : ℕ) (r' : MutBor (List A)) : Type 0 where
  pub same : r'.ghost_name ≡ r.ghost_name
  pub room : length r'.now ≡ length r.now
  pub more : n ≤ n'
  pub past : drop n' r'.now ≡ drop n' r.now

-- What is said is narrow enough to be stored: what test 5 tells, what test 6 tells, and both.
abbrev pub NarrowLeaf : Kind → ℕ → Type 0
NarrowLeaf Action p = p < 256
NarrowLeaf Deadlock p = Unit {0}
NarrowLeaf Variable p = p < 256
NarrowLeaf Choice p = Unit {0}
NarrowLeaf Sequence p = Unit {0}
NarrowLeaf Merge p = Unit {0}
NarrowLeaf LeftMerge p = Unit {0}
NarrowLeaf CommMerge p = Unit {0}
NarrowLeaf Block p = Unit {0}
NarrowLeaf Hide p = Unit {0}

abbrev pub NarrowNode : Kind → ℕ → ℕ → Type 0
NarrowNode Action p q = Unit {0}
NarrowNode Deadlock p q = Unit {0}
NarrowNode Variable p q = Unit {0}
NarrowNode Choice p q = (p < 65536) × (q < 65536)
NarrowNode Sequence p q = (p < 65536) × (q < 65536)
NarrowNode Merge p q = (p < 65536) × (q < 65536)
NarrowNode LeftMerge p q = (p < 65536) × (q < 65536)
NarrowNode CommMerge p q = (p < 65536) × (q < 65536)
NarrowNode Block p q = p < 65536
NarrowNode Hide p q = p < 65536

abbrev pub NarrowTerm : Kind → ℕ → ℕ → Type 0
NarrowTerm k p q = NarrowLeaf k p × NarrowNode k p q

abbrev pub Limited : Said → Type 0
Limited (said.Variables v) = v ≤ 256
Limited (said.Joins a b r) = (a < 256) × (b < 256) × (r < 256)
Limited (said.Becomes x a y) = (x < 256) × (a < 256) × (y < 256)
Limited (said.Ends x a) = (x < 256) × (a < 256)
Limited (said.Gives n k p q) = NarrowLeaf k p
Limited (said.Starts n) = Unit {0}

abbrev pub Numbered : Said → Type 0
Numbered (said.Variables v) = Unit {0}
Numbered (said.Joins a b r) = Unit {0}
Numbered (said.Becomes x a y) = Unit {0}
Numbered (said.Ends x a) = Unit {0}
Numbered (said.Gives n k p q) = NarrowNode k p q
Numbered (said.Starts n) = Unit {0}

abbrev pub Narrow : Said → Type 0
Narrow s = Limited s × Numbered s

abbrev pub Small : Entry → Type 0
Small (entry.Variables v) = v ≤ 256
Small (entry.Joins l) = Unit {0}
Small (entry.Does e) = Unit {0}
Small (entry.Gives t) = Unit {0}
Small (entry.Starts n) = Unit {0}

-- There is room for the entry.
abbrev pub Roomy : Filling → Entry → Type 0
Roomy f (entry.Variables v) = Unit {0}
Roomy f (entry.Joins l) = f.line_count < length f.lines.now
Roomy f (entry.Does e) = f.equation_count < length f.equations.now
Roomy f (entry.Gives t) = (f.term_count < length f.terms.now) × (f.term_count < 256)
Roomy f (entry.Starts n) = Unit {0}

-- The entry is not said before, and there is room for it.
pub record Fits (f : Filling) (e : Entry) : Type 0 where
  pub roomy : Roomy f e
  pub fresh : said_before (seen f) e ≡ false

-- The first of the tests that holds is the fault found.
abbrev pub Finds : List Test → Result (Unit {0}) Fault → Type 0
Finds ts (Ok u) = first_fault ts ≡ None
Finds ts (Err k) = first_fault ts ≡ Some k

pub record Taken (f : Filling) (d : Said) (e : Entry) : Type 0 where
  pub faultless : fault_said (room_of f) (seen f) d ≡ None
  pub is : e ≡ entry_of d
  pub small : Small e
  pub fits : Fits f e

abbrev pub SaidJudged : Filling → Said → Result Entry Fault → Type 0
SaidJudged f d (Ok e) = Taken f d e
SaidJudged f d (Err k) = fault_said (room_of f) (seen f) d ≡ Some k

pub record Adds (f : Filling) (text : List ℕ) (e : Entry) : Type 0 where
  pub said : Said
  pub is_fine : judged (room_of f) (seen f) (whole text) ≡ fine said
  pub is : e ≡ entry_of said
  pub small : Small e
  pub fits : Fits f e

abbrev pub LineJudged : Filling → List ℕ → Result Entry Fault → Type 0
LineJudged f text (Ok e) = Adds f text e
LineJudged f text (Err k) = judged (room_of f) (seen f) (whole text) ≡ faulty k

-- The entry is stored behind what stood.
pub record Stores (f : Filling) (e : Entry) (f' : Filling) : Type 0 where
  pub is : seen f' ≡ after (seen f) e
  pub lines : Grows f.line_count f.lines f'.line_count f'.lines
  pub equations : Grows f.equation_count f.equations f'.equation_count f'.equations
  pub terms : Grows f.term_count f.terms f'.term_count f'.terms

-- One line further.
pub record Onward (f : Filling) (text : List ℕ) (f' : Filling) : Type 0 where
  pub reads : (i : ℕ) (rest : List Raw) → read_lines (room_of f) i (seen f) (whole text ∷ rest) ≡ read_lines (room_of f) (suc i) (seen f') rest
  pub lines : Grows f.line_count f.lines f'.line_count f'.lines
  pub equations : Grows f.equation_count f.equations f'.equation_count f'.equations
  pub terms : Grows f.term_count f.terms f'.term_count f'.terms

-- The start line, which adds nothing.
pub record Begins (f : Filling) (text : List ℕ) (n : ℕ) (f' : Filling) : Type 0 where
  pub reads : (i : ℕ) (rest : List Raw) → read_lines (room_of f) i (seen f) (whole text ∷ rest) ≡ ended i (seen f) n rest
  pub stays : f' ≡ f

-- A line with a fault, which adds nothing.
pub record Faulty (f : Filling) (text : List ℕ) (k : Fault) (f' : Filling) : Type 0 where
  pub reads : (i : ℕ) (rest : List Raw) → read_lines (room_of f) i (seen f) (whole text ∷ rest) ≡ refused_at k i
  pub stays : f' ≡ f

-- What one line leads to: a refusal, the start term, or a state to go on from.
abbrev pub ReadsLine : Filling → List ℕ → Filling → Result (Option ℕ) Fault → Type 0
ReadsLine f text f' (Err k) = Faulty f text k f'
ReadsLine f text f' (Ok (Some n)) = Begins f text n f'
ReadsLine f text f' (Ok None) = Onward f text f'

-- How far each row is filled, with the start term.
abbrev pub counts_of : Filling → ℕ → Counts
counts_of f n = record { variables = f.variables; lines = f.line_count; equations = f.equation_count; terms = f.term_count; start = n }

-- The lines of a file from the first on, behind what has been read.
abbrev pub reading_on : Filling → List ℕ → Answer
reading_on f bytes = elim (nat_lt 32768 (length bytes)) [ true ↦ refused_at TooLong 0 | false ↦ read_lines (room_of f) 1 (seen f) (raw_lines bytes) ]

-- The start line is reached, and nothing stands behind it.
pub record Ends (f : Filling) (bytes : List ℕ) (n : Counts) (f' : Filling) : Type 0 where
  pub start : ℕ
  pub is : n ≡ counts_of f' start
  pub reads : reading_on f bytes ≡ read (tables_is n f'.lines.now f'.equations.now f'.terms.now)
  pub lines : Grows f.line_count f.lines f'.line_count f'.lines
  pub equations : Grows f.equation_count f.equations f'.equation_count f'.equations
  pub terms : Grows f.term_count f.terms f'.term_count f'.terms

pub record Refuses (f : Filling) (bytes : List ℕ) (e : Refusal) : Type 0 where
  pub reads : reading_on f bytes ≡ refused_at e.fault e.line

-- What the lines of a file lead to: the counts of what has been read, or a refusal.
abbrev pub ReadsFile : Filling → List ℕ → Filling → Result Counts Refusal → Type 0
ReadsFile f bytes f' (Ok n) = Ends f bytes n f'
ReadsFile f bytes f' (Err e) = Refuses f bytes e

-- The tables are those of the file, and the entries past them are as they were.
pub record Filled (bytes : List ℕ) (n : Counts) (ls : List JoinLine) (es : List Equation) (ts : List Term) (ls' : List JoinLine) (es' : List Equation) (ts' : List Term) : Type 0 where
  pub reads : reading (room_is ls es ts) bytes ≡ read (tables_is n ls' es' ts')
  pub lines_in : n.lines ≤ length ls
  pub equations_in : n.equations ≤ length es
  pub terms_in : n.terms ≤ length ts
  pub past_lines : drop n.lines ls' ≡ drop n.lines ls
  pub past_equations : drop n.equations es' ≡ drop n.equations es
  pub past_terms : drop n.terms ts' ≡ drop n.terms ts
