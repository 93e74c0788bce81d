-- The form of a line, and what a line of that form says.
use Rattle.std.specs.Prelude.{ℕ, cond, List, [], ◌∷◌, Some, None, Option, ◌==◌}
use Rattle.tokens.specs.declared.said.Said.{Said}
use Rattle.tokens.specs.declared.said.Said.TheVariants as said
use Rattle.tokens.specs.declared.token.Kind.{Kind}
use Rattle.tokens.specs.declared.token.Kind.TheVariants.{Action, Deadlock, Variable, Choice, Sequence, Merge, LeftMerge, CommMerge, Block, Hide}
use Rattle.tokens.specs.declared.token.Letter.{Letter}
use Rattle.tokens.specs.declared.token.Letter.TheVariants.{Variables, Joins, Becomes, Ends, Gives, Starts}
use Rattle.tokens.specs.Lines.{Raw, whole, cut, fields}
use Rattle.tokens.specs.Numbers.{number, set}

-- The byte of each letter, and of each kind's sign.
abbrev pub letter_byte : Letter → ℕ
letter_byte Variables = 109
letter_byte Joins = 99
letter_byte Becomes = 101
letter_byte Ends = 102
letter_byte Gives = 116
letter_byte Starts = 122

abbrev pub sign_byte : Kind → ℕ
sign_byte Action = 97
sign_byte Deadlock = 100
sign_byte Variable = 118
sign_byte Choice = 43
sign_byte Sequence = 46
sign_byte Merge = 109
sign_byte LeftMerge = 108
sign_byte CommMerge = 106
sign_byte Block = 98
sign_byte Hide = 104

-- The one of a list whose byte it is.
abbrev pub among : {A : Type 0} → (A → ℕ) → List A → ℕ → Option A
among byte [] b = None
among byte (x ∷ xs) b = cond (byte x == b) (Some x) (among byte xs b)

abbrev pub letter_in : List ℕ → Option Letter
letter_in [] = None
letter_in (b ∷ []) = among letter_byte (Variables ∷ Joins ∷ Becomes ∷ Ends ∷ Gives ∷ Starts ∷ []) b
letter_in (b ∷ c ∷ bs) = None

abbrev pub kind_in : List ℕ → Option Kind
kind_in [] = None
kind_in (b ∷ []) = among sign_byte (Action ∷ Deadlock ∷ Variable ∷ Choice ∷ Sequence ∷ Merge ∷ LeftMerge ∷ CommMerge ∷ Block ∷ Hide ∷ []) b
kind_in (b ∷ c ∷ bs) = None

-- A line by its letter, with its fields.
pub data Shape : Type 0 where
  variables : (v : List ℕ) → Shape
  joins : (a b r : List ℕ) → Shape
  becomes : (x a y : List ℕ) → Shape
  ends : (x a : List ℕ) → Shape
  gives : (n : List ℕ) → Kind → (p q : List ℕ) → Shape
  starts : (n : List ℕ) → Shape

-- Each letter asks for a count of fields.
abbrev pub shape_by : Letter → List (List ℕ) → Option Shape
shape_by Variables fs = elim fs [ [] ↦ None | v ∷ fs1 ↦ elim fs1 [ [] ↦ Some (variables v) | w ∷ fs2 ↦ None ] ]
shape_by Starts fs = elim fs [ [] ↦ None | v ∷ fs1 ↦ elim fs1 [ [] ↦ Some (starts v) | w ∷ fs2 ↦ None ] ]
shape_by Ends fs = elim fs [ [] ↦ None | x ∷ fs1 ↦ elim fs1 [ [] ↦ None | a ∷ fs2 ↦ elim fs2 [ [] ↦ Some (ends x a) | w ∷ fs3 ↦ None ] ] ]
shape_by Becomes fs = elim fs [ [] ↦ None | x ∷ fs1 ↦ elim fs1 [ [] ↦ None | a ∷ fs2 ↦ elim fs2 [ [] ↦ None | y ∷ fs3 ↦ elim fs3 [ [] ↦ Some (becomes x a y) | w ∷ fs4 ↦ None ] ] ] ]
shape_by Joins fs = elim fs [ [] ↦ None | x ∷ fs1 ↦ elim fs1 [ [] ↦ None | a ∷ fs2 ↦ elim fs2 [ [] ↦ None | y ∷ fs3 ↦ elim fs3 [ [] ↦ Some (joins x a y) | w ∷ fs4 ↦ None ] ] ] ]
shape_by Gives fs = elim fs [ [] ↦ None | n ∷ fs1 ↦ elim fs1 [ [] ↦ None | k ∷ fs2 ↦ elim fs2 [ [] ↦ None | p ∷ fs3 ↦ elim fs3 [ [] ↦ None | q ∷ fs4 ↦ elim fs4 [ [] ↦ elim (kind_in k) [ None ↦ None | Some s ↦ Some (gives n s p q) ] | w ∷ fs5 ↦ None ] ] ] ] ]

-- The shape of a line: none if it is cut, its letter or sign is unknown, or its count of fields is wrong.
abbrev pub shape : Raw → Option Shape
shape (cut l) = None
shape (whole l) = elim (fields l) [ [] ↦ None | f ∷ fs ↦ elim (letter_in f) [ None ↦ None | Some c ↦ shape_by c fs ] ]

abbrev pub and_then : {A B : Type 0} → Option A → (A → Option B) → Option B
and_then None f = None
and_then (Some a) f = f a

-- The second operand of a term is a set for blocking and hiding, else a number.
abbrev pub second : Kind → List ℕ → Option ℕ
second Action f = number f
second Deadlock f = number f
second Variable f = number f
second Choice f = number f
second Sequence f = number f
second Merge f = number f
second LeftMerge f = number f
second CommMerge f = number f
second Block f = set f
second Hide f = set f

-- What a line says: none if a field is not the number or set that belongs there.
abbrev pub values : Shape → Option Said
values (variables v) = and_then (number v) (λ n. Some (said.Variables n))
values (joins a b r) = and_then (number a) (λ x. and_then (number b) (λ y. and_then (number r) (λ z. Some (said.Joins x y z))))
values (becomes x a y) = and_then (number x) (λ u. and_then (number a) (λ b. and_then (number y) (λ w. Some (said.Becomes u b w))))
values (ends x a) = and_then (number x) (λ u. and_then (number a) (λ b. Some (said.Ends u b)))
values (gives n k p q) = and_then (number n) (λ m. and_then (number p) (λ u. and_then (second k q) (λ w. Some (said.Gives m k u w))))
values (starts n) = and_then (number n) (λ m. Some (said.Starts m))
