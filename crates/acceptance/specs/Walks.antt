-- The search for silent rings, computed: from which variables a silent walk of so many steps starts.
use Rattle.std.specs.Prelude.{◌≡◌, ℕ, zero, suc, ◌<◌, Bool, true, false, cond, ◌&&◌, ◌||◌, List, [], ◌∷◌, length, Some, None, Option, ◌==◌, nat_eq, slice_index_or}
use Rattle.processes.specs.declared.equations.Equation.{Equation}
use Rattle.processes.specs.declared.equations.Equation.TheVariants.{Ends, Becomes}

abbrev pub any : {A : Type 0} → (A → Bool) → List A → Bool
any f [] = false
any f (x ∷ xs) = f x || any f xs

abbrev pub member : ℕ → List ℕ → Bool
member x ys = any (λ y. nat_eq x y) ys

-- the variables with a silent line to one of A
abbrev pub walkers : List Equation → List ℕ → List ℕ
walkers [] A = []
walkers (Ends x a ∷ es) A = walkers es A
walkers (Becomes x a y ∷ es) A = cond (a == 0 && member y A) (x ∷ walkers es A) (walkers es A)

abbrev pub walk : List Equation → ℕ → List ℕ → List ℕ
walk E zero A = A
walk E (suc k) A = walk E k (walkers E A)

abbrev pub targets : List Equation → List ℕ
targets [] = []
targets (Ends x a ∷ es) = targets es
targets (Becomes x a y ∷ es) = y ∷ targets es

abbrev pub some? : List ℕ → Bool
some? [] = false
some? (x ∷ xs) = true

abbrev pub silent_ring : List Equation → Bool
silent_ring E = some? (walk E (suc (length E)) (targets E))

-- the marks are those of the variables in A
abbrev pub Marks : List Bool → List ℕ → Type 0
Marks marks A = (y : ℕ) → y < 256 → slice_index_or marks y false ≡ member y A

-- the marks of the variables in A, or none where A is empty
abbrev pub MarksOf : Option (List Bool) → List ℕ → Type 0
MarksOf (Some marks) A = Marks marks A × (some? A ≡ true)
MarksOf None A = some? A ≡ false
