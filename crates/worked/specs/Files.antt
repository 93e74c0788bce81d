-- The files of the worked runs, line by line.
use Rattle.std.specs.Prelude.{ℕ, List, [], ◌∷◌, ◌++◌, codes}
use Prim.Native.String.{String}
use Rattle.worked.specs.declared.files.File.{File}
use Rattle.worked.specs.declared.files.File.TheVariants.{Merged, Twice, SilentMiddle, NoMiddle, SilentStart, OneAction, NotAssociative, SilentRing}

-- The bytes of a text of these lines, each ended by a line feed (10).
abbrev pub text : List String → List ℕ
text [] = []
text (line ∷ lines) = codes line ++ (10 ∷ text lines)

-- A process of two equal steps, merged with itself.
abbrev pub merged : List ℕ
merged = text ("m,2" ∷ "e,0,1,1" ∷ "f,1,1" ∷ "t,1,v,0,0" ∷ "t,2,m,1,1" ∷ "z,2" ∷ [])

-- The text of its table: seven states, start 2, nine steps.
abbrev pub merged_table : List ℕ
merged_table = text ("n,7,2,9" ∷ "s,1,1,3" ∷ "s,2,1,4" ∷ "s,2,1,5" ∷ "s,3,1,0" ∷ "s,4,1,1" ∷ "s,4,1,6" ∷ "s,5,1,6" ∷ "s,5,1,1" ∷ "s,6,1,3" ∷ [])

-- Action 1, and then action 1.
abbrev pub twice : List ℕ
twice = text ("m,0" ∷ "t,1,a,1,0" ∷ "t,2,.,1,1" ∷ "z,2" ∷ [])

-- Action 1, a silent step, and then action 2.
abbrev pub silent_middle : List ℕ
silent_middle = text ("m,0" ∷ "t,1,a,1,0" ∷ "t,2,a,0,0" ∷ "t,3,a,2,0" ∷ "t,4,.,2,3" ∷ "t,5,.,1,4" ∷ "z,5" ∷ [])

-- Action 1, and then action 2.
abbrev pub no_middle : List ℕ
no_middle = text ("m,0" ∷ "t,1,a,1,0" ∷ "t,2,a,2,0" ∷ "t,3,.,1,2" ∷ "z,3" ∷ [])

-- A silent step, and then action 2.
abbrev pub silent_start : List ℕ
silent_start = text ("m,0" ∷ "t,1,a,0,0" ∷ "t,2,a,2,0" ∷ "t,3,.,1,2" ∷ "z,3" ∷ [])

-- Action 2.
abbrev pub one_action : List ℕ
one_action = text ("m,0" ∷ "t,1,a,2,0" ∷ "z,1" ∷ [])

-- 1 and 2 join to 3, which joins with 4 to 5; but 2 and 4 do not join.
abbrev pub not_associative : List ℕ
not_associative = text ("m,0" ∷ "c,1,2,3" ∷ "c,3,4,5" ∷ "t,1,d,0,0" ∷ "z,1" ∷ [])

-- Variable 0 silently becomes itself.
abbrev pub silent_ring : List ℕ
silent_ring = text ("m,1" ∷ "e,0,0,0" ∷ "t,1,v,0,0" ∷ "z,1" ∷ [])

-- The files by their names in the code.
abbrev pub bytes_of : File → List ℕ
bytes_of Merged = merged
bytes_of Twice = twice
bytes_of SilentMiddle = silent_middle
bytes_of NoMiddle = no_middle
bytes_of SilentStart = silent_start
bytes_of OneAction = one_action
bytes_of NotAssociative = not_associative
bytes_of SilentRing = silent_ring
