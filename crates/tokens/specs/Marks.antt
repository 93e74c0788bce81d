-- The tokens that the code hands on, as the fields that they are.
use Rattle.std.specs.Prelude.{◌≡◌, ℕ, List, Some, None, Option}
use Rattle.tokens.specs.declared.token.Form.{Form}
use Rattle.tokens.specs.declared.token.Form.TheVariants.{Variables, Joins, Becomes, Ends, Gives, Starts}
use Rattle.tokens.specs.declared.token.Kind.{Kind}
use Rattle.tokens.specs.declared.token.Kind.TheVariants.{Action, Deadlock, Variable, Choice, Sequence, Merge, LeftMerge, CommMerge, Block, Hide}
use Rattle.tokens.specs.declared.token.Token.{Token}
use Rattle.tokens.specs.declared.token.Token.TheVariants.{Number, Set, Sign}
use Rattle.tokens.specs.Forms.{kind_in, Shape, variables, joins, becomes, ends, gives, starts}
use Rattle.tokens.specs.Numbers.{number, set}

-- The code's answer, read by f, is the definition's.
abbrev pub Is : {A B : Type 0} → (A → B) → Option A → Option B → Type 0
Is f (Some a) o = o ≡ Some (f a)
Is f None o = o ≡ None

-- The bytes of a token.
abbrev pub text : Token → List ℕ
text (Number r) = r.now
text (Set r) = r.now
text (Sign r) = r.now

-- What a token's bytes say, by its mark.
abbrev pub value_of : Token → Option ℕ
value_of (Number r) = number r.now
value_of (Set r) = set r.now
value_of (Sign r) = None

-- The kind that a sign tells.
abbrev pub kind_told : Token → Option Kind
kind_told (Number r) = None
kind_told (Set r) = None
kind_told (Sign r) = kind_in r.now

abbrev pub shape_of : Form → Shape
shape_of (Variables v) = variables (text v)
shape_of (Joins a b r) = joins (text a) (text b) (text r)
shape_of (Becomes x a y) = becomes (text x) (text a) (text y)
shape_of (Ends x a) = ends (text x) (text a)
shape_of (Gives n k p q) = gives (text n) k (text p) (text q)
shape_of (Starts n) = starts (text n)

abbrev pub IsNumber : Token → Type 0
IsNumber (Number r) = Unit {0}
IsNumber (Set r) = ⊥
IsNumber (Sign r) = ⊥

abbrev pub IsSet : Token → Type 0
IsSet (Number r) = ⊥
IsSet (Set r) = Unit {0}
IsSet (Sign r) = ⊥

-- The mark of a term's second operand.
abbrev pub SecondMarked : Kind → Token → Type 0
SecondMarked Action q = IsNumber q
SecondMarked Deadlock q = IsNumber q
SecondMarked Variable q = IsNumber q
SecondMarked Choice q = IsNumber q
SecondMarked Sequence q = IsNumber q
SecondMarked Merge q = IsNumber q
SecondMarked LeftMerge q = IsNumber q
SecondMarked CommMerge q = IsNumber q
SecondMarked Block q = IsSet q
SecondMarked Hide q = IsSet q

-- Each field has the mark of its place.
abbrev pub Marked : Form → Type 0
Marked (Variables v) = IsNumber v
Marked (Joins a b r) = IsNumber a × IsNumber b × IsNumber r
Marked (Becomes x a y) = IsNumber x × IsNumber a × IsNumber y
Marked (Ends x a) = IsNumber x × IsNumber a
Marked (Gives n k p q) = IsNumber n × IsNumber p × SecondMarked k q
Marked (Starts n) = IsNumber n
