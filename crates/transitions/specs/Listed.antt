-- Communications given by lines, each of which lets two actions join to a third.
use Rattle.std.specs.Prelude.{◌≡◌, ℕ, ◌<◌, ◌≤◌, Bool, cond, ◌&&◌, ◌||◌, ◌⊎◌, List, [], ◌∷◌, length, Some, None, ◌==◌, slice_index_or}
use Rattle.transitions.specs.declared.lines.JoinLine.{JoinLine}
use Rattle.transitions.specs.Made.{Joins, Visible}
use Rattle.transitions.specs.Rules.{Iff}

-- The line at place k.
abbrev pub line_at : List JoinLine → ℕ → JoinLine
line_at lines k = slice_index_or lines k (record { a = 0; b = 0; joint = 0 })

-- The line names a and b, in either order.
abbrev pub Names : JoinLine → ℕ → ℕ → Type 0
Names line a b = ((line.a ≡ a) × (line.b ≡ b)) ⊎ ((line.a ≡ b) × (line.b ≡ a))

-- Some line lets a and b join to c.
pub record Said (lines : List JoinLine) (a b c : ℕ) : Type 0 where
  pub place : ℕ
  pub within : place < length lines
  pub names : Names (line_at lines place) a b
  pub joint : (line_at lines place).joint ≡ c

-- No two lines name the same pair.
abbrev pub Once : List JoinLine → Type 0
Once lines = (j k a b : ℕ) → j < k → k < length lines → Names (line_at lines j) a b → Names (line_at lines k) a b → ⊥

-- Joining a and b and then c gives what joining a with the joint of b and c gives, nothing included.
abbrev pub Associative : List JoinLine → Type 0
Associative lines = (a b c r : ℕ) → Iff ((d : ℕ) × Said lines a b d × Said lines d c r) ((d : ℕ) × Said lines b c d × Said lines a d r)

-- The actions of a line are visible.
abbrev pub VisibleLine : JoinLine → Type 0
VisibleLine line = Visible line.a × Visible line.b × Visible line.joint

-- The lines that a communication may have: at most 32, of visible actions, no pair twice, and associative.
pub record Acceptable (lines : List JoinLine) : Type 0 where
  pub few : length lines ≤ 32
  pub visible : (k : ℕ) → k < length lines → VisibleLine (line_at lines k)
  pub once : Once lines
  pub associative : Associative lines

-- What is joined under a communication given by lines: what they say, and nothing where they are not acceptable.
pub record ByLines (lines : List JoinLine) (join : Joins) : Type 0 where
  pub accepted : Acceptable lines → (a b c : ℕ) → Iff (join a b ≡ Some c) (Said lines a b c)
  pub refused : (Acceptable lines → ⊥) → (a b : ℕ) → join a b ≡ None

-- The same, computed.
abbrev pub names : JoinLine → ℕ → ℕ → Bool
names line a b = (line.a == a && line.b == b) || (line.a == b && line.b == a)

-- What a and b join to: the joint of the first line that names them.
unfoldable pub listed_joins : List JoinLine → Joins
listed_joins [] a b = None
listed_joins (line ∷ lines) a b = cond (names line a b) (Some line.joint) (listed_joins lines a b)
