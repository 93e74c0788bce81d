-- The verdict on a pairing: a match, or the first condition broken, in one order.
use Rattle.std.specs.Prelude.{◌≡◌, ℕ, ◌<◌, true, ◌⊎◌, List, [], ◌∷◌, Some, Ok, Err, Result}
use Rattle.transitions.specs.declared.steps.Step.{Step}
use Rattle.transitions.specs.declared.verdicts.Side.{Side}
use Rattle.transitions.specs.declared.verdicts.Side.TheVariants.{Left, Right}
use Rattle.transitions.specs.declared.verdicts.Counterexample.{Counterexample}
use Rattle.transitions.specs.declared.verdicts.Counterexample.TheVariants.{StartMissing, StepUnanswered, EndUnanswered, RootUnanswered}
use Rattle.transitions.specs.declared.verdicts.Figures.{Figures}
use Rattle.transitions.specs.Lts.{Lts}
use Rattle.transitions.specs.Match.{Pairing, flip, Stands, Answered, Ended, Rooted, Match}

-- ---- the conditions of a match, one by one

-- The step of s at place p, if there is one, is answered by t.
abbrev pub AtPlace : Lts → Lts → Pairing → ℕ → ℕ → ℕ → Type 0
AtPlace L R B s t p = (x : Step) → L.step s p ≡ Some x → Answered R B s t x.action x.target

-- The end of s, if it may end, is answered by t.
abbrev pub AtEnd : Lts → Lts → Pairing → ℕ → ℕ → Type 0
AtEnd L R B s t = L.ends s ≡ true → Ended R B s t

-- The step of the start s at place p, if there is one, is answered by a step of the other start.
abbrev pub AtRoot : Lts → Lts → Pairing → ℕ → ℕ → Type 0
AtRoot L R B s p = (x : Step) → L.step s p ≡ Some x → Rooted R B x.action x.target

-- The condition that a counterexample names holds.
abbrev pub Holds : Lts → Lts → Pairing → Counterexample → Type 0
Holds L R B (StartMissing s t) = Stands B s t
Holds L R B (StepUnanswered s t Left p) = Stands B s t → AtPlace L R B s t p
Holds L R B (StepUnanswered s t Right p) = Stands B s t → AtPlace R L (flip B) t s p
Holds L R B (EndUnanswered s t Left) = Stands B s t → AtEnd L R B s t
Holds L R B (EndUnanswered s t Right) = Stands B s t → AtEnd R L (flip B) t s
Holds L R B (RootUnanswered s t Left p) = AtRoot L R B s p
Holds L R B (RootUnanswered s t Right p) = AtRoot R L (flip B) t p

-- The counterexamples that two models can have: states and places in range, and the starts where one carries them.
abbrev pub Proper : Lts → Lts → Counterexample → Type 0
Proper L R (StartMissing s t) = (s ≡ L.start) × (t ≡ R.start)
Proper L R (StepUnanswered s t Left p) = (s < L.states) × (t < R.states) × (p < L.width)
Proper L R (StepUnanswered s t Right p) = (s < L.states) × (t < R.states) × (p < R.width)
Proper L R (EndUnanswered s t side) = (s < L.states) × (t < R.states)
Proper L R (RootUnanswered s t Left p) = (s ≡ L.start) × (t ≡ R.start) × (p < L.width)
Proper L R (RootUnanswered s t Right p) = (s ≡ L.start) × (t ≡ R.start) × (p < R.width)

-- The order of the tests: the start pair, the pairs by s and t, in each the left steps by place, the right steps, the left
-- end and the right end, then the root, left first.
abbrev pub rank : Counterexample → List ℕ
rank (StartMissing s t) = 0 ∷ 0 ∷ 0 ∷ 0 ∷ 0 ∷ []
rank (StepUnanswered s t Left p) = 1 ∷ s ∷ t ∷ 0 ∷ p ∷ []
rank (StepUnanswered s t Right p) = 1 ∷ s ∷ t ∷ 1 ∷ p ∷ []
rank (EndUnanswered s t Left) = 1 ∷ s ∷ t ∷ 2 ∷ 0 ∷ []
rank (EndUnanswered s t Right) = 1 ∷ s ∷ t ∷ 3 ∷ 0 ∷ []
rank (RootUnanswered s t Left p) = 2 ∷ 0 ∷ 0 ∷ 0 ∷ p ∷ []
rank (RootUnanswered s t Right p) = 2 ∷ 0 ∷ 0 ∷ 1 ∷ p ∷ []

-- The order of words.
abbrev pub Lex : List ℕ → List ℕ → Type 0
Lex [] ys = ⊥
Lex (x ∷ xs) [] = ⊥
Lex (x ∷ xs) (y ∷ ys) = (x < y) ⊎ ((x ≡ y) × Lex xs ys)

abbrev pub Before : Counterexample → Counterexample → Type 0
Before j k = Lex (rank j) (rank k)

-- k is the first broken condition: it is broken, and every one before it holds.
pub record First (L R : Lts) (B : Pairing) (k : Counterexample) : Type 0 where
  pub proper : Proper L R k
  pub broken : Holds L R B k → ⊥
  pub earlier : (j : Counterexample) → Proper L R j → Before j k → Holds L R B j

-- A verdict: a match, or a counterexample.
abbrev pub Verdict : Type 0
Verdict = Result (Unit {0}) Counterexample

-- What the verdict on a pairing is.
abbrev pub VerdictIs : Lts → Lts → Pairing → Verdict → Type 0
VerdictIs L R B (Ok _) = Match L R B
VerdictIs L R B (Err k) = First L R B k

-- ---- the figures of a verdict

-- Left is 0, right is 1.
abbrev pub side_number : Side → ℕ
side_number Left = 0
side_number Right = 1

-- The kind of a verdict and its numbers, unused ones 0: a match is kind 0, a missing start pair 1, a step unanswered 2, an end
-- unanswered 3, a root step unanswered 4.
abbrev pub figures : Verdict → Figures
figures (Ok _) = record { kind = 0; left = 0; right = 0; side = 0; place = 0 }
figures (Err (StartMissing s t)) = record { kind = 1; left = s; right = t; side = 0; place = 0 }
figures (Err (StepUnanswered s t h p)) = record { kind = 2; left = s; right = t; side = side_number h; place = p }
figures (Err (EndUnanswered s t h)) = record { kind = 3; left = s; right = t; side = side_number h; place = 0 }
figures (Err (RootUnanswered s t h p)) = record { kind = 4; left = s; right = t; side = side_number h; place = p }
