-- The nine worked runs, one row each.
use Rattle.std.specs.Prelude.{ℕ, List, [], ◌∷◌, Some, Ok, Err}
use Rattle.judging.specs.declared.replies.Ask.{Ask}
use Rattle.transitions.specs.declared.replies.Reply.TheVariants.{Stays, Moves}
use Rattle.transitions.specs.declared.verdicts.Counterexample.TheVariants.{StepUnanswered, RootUnanswered}
use Rattle.transitions.specs.declared.verdicts.Figures.{Figures}
use Rattle.transitions.specs.declared.verdicts.Side.TheVariants.{Left}
use Rattle.worked.specs.Files.{merged, merged_table, twice, silent_middle, no_middle, silent_start, one_action, not_associative, silent_ring}
use Rattle.worked.specs.Runs.{Run, unfolds, refuses, judges, judges_without, replies, Holds}

-- kind, left state, right state, side and place
abbrev pub told : ℕ → ℕ → ℕ → ℕ → ℕ → Figures
told kind left right side place = record { kind = kind; left = left; right = right; side = side; place = place }

-- side, left state, right state and place
abbrev pub asked : ℕ → ℕ → ℕ → ℕ → Ask
asked side s t place = record { side = side; s = s; t = t; place = place }

abbrev pub middle_pairs : List (ℕ × ℕ)
middle_pairs = (0, 0) ∷ (3, 2) ∷ (4, 2) ∷ (5, 3) ∷ []

abbrev pub runs : List Run
runs =
    -- 1. the merged process of two equal steps
    unfolds merged merged_table
    -- 2. against a sequence, a step is unanswered
    ∷ judges merged twice ((1, 0) ∷ (2, 2) ∷ (4, 1) ∷ (5, 1) ∷ (6, 0) ∷ []) (Err (StepUnanswered 1 0 Left 0)) (told 2 1 0 0 0)
    -- 3. the silent middle step, a match
    ∷ judges silent_middle no_middle middle_pairs (Ok tt) (told 0 0 0 0 0)
    -- 4. without one pair, a step is unanswered
    ∷ judges_without silent_middle no_middle middle_pairs (3, 2) (Err (StepUnanswered 4 2 Left 0)) (told 2 4 2 0 0)
    -- 5. the right state's step: the left state moves to 3, and answers at place 0
    ∷ replies silent_middle no_middle middle_pairs (asked 1 4 2 0) (Some (Moves 3 0))
    -- 6. the left state's silent step: the right state stays
    ∷ replies silent_middle no_middle middle_pairs (asked 0 4 2 0) (Some Stays)
    -- 7. a silent step of the start may not be answered by staying
    ∷ judges silent_start one_action ((0, 0) ∷ (2, 1) ∷ (3, 1) ∷ []) (Err (RootUnanswered 3 1 Left 0)) (told 4 3 1 0 0)
    -- 8. a communication that is not associative
    ∷ refuses not_associative 10 5
    -- 9. a ring of one silent line
    ∷ refuses silent_ring 11 4
    ∷ []

abbrev pub AllHold : List Run → Type 0
AllHold [] = Unit {0}
AllHold (r ∷ rs) = Holds r × AllHold rs

-- Every worked run holds.
abbrev pub WorkedRuns : Type 0
WorkedRuns = AllHold runs
