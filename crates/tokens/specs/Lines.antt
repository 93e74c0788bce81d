-- The lines of a text, and the fields of a line.
use Rattle.std.specs.Prelude.{ℕ, cond, List, [], ◌∷◌, ◌==◌}
use Rattle.std.specs.List.{slice_split}

-- A line is whole if a line feed (10) ends it. Only a last piece can be cut.
pub data Raw : Type 0 where
  whole : List ℕ → Raw
  cut : List ℕ → Raw

abbrev pub grow : ℕ → List Raw → List Raw
grow b [] = cut (b ∷ []) ∷ []
grow b (whole l ∷ ls) = whole (b ∷ l) ∷ ls
grow b (cut l ∷ ls) = cut (b ∷ l) ∷ ls

abbrev pub raw_lines : List ℕ → List Raw
raw_lines [] = []
raw_lines (b ∷ bs) = cond (b == 10) (whole [] ∷ raw_lines bs) (grow b (raw_lines bs))

-- What the bytes are where there is no line feed in them: a cut piece, or nothing.
abbrev pub last_piece : List ℕ → List Raw
last_piece [] = []
last_piece (b ∷ bs) = cut (b ∷ bs) ∷ []

-- The fields stand between commas (44); an empty one counts.
abbrev pub fields : List ℕ → List (List ℕ)
fields bs = slice_split (λ b. b == 44) bs
