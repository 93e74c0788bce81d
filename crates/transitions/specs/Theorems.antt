-- What is proved of made systems, matches and verdicts.
use Rattle.std.specs.Prelude.{◌≡◌, ℕ, ◌<◌, true, false, List}
use Rattle.transitions.specs.Lts.{Lts, Lawful, Silent, Run, shown}
use Rattle.transitions.specs.Match.{Pairing, flip, Stands, Match}
use Rattle.transitions.specs.Made.{Actions, Joins, Communication, block, hide, merge}
use Rattle.transitions.specs.Rules.{Blocks, Hides, Merges}
use Rattle.transitions.specs.Verdict.{Verdict, VerdictIs}

-- After silent steps of s there is a state that may end.
abbrev pub MayEnd : Lts → ℕ → Type 0
MayEnd L s = (m : ℕ) × Silent L s m × (L.ends m ≡ true)

-- A run of the right model that follows one of the left that has done `acts` and stopped at s: it shows the same actions, and
-- stops at a state that stands with s; where one of the two may end, the other may after silent steps.
pub record Follower (L R : Lts) (B : Pairing) (acts : List ℕ) (s : ℕ) : Type 0 where
  pub actions : List ℕ
  pub last : ℕ
  pub run : Run R R.start actions last
  pub same : shown actions ≡ shown acts
  pub stands : Stands B s last
  pub end_left : L.ends s ≡ true → MayEnd R last
  pub end_right : R.ends last ≡ true → MayEnd L s

abbrev pub Followed : Lts → Lts → Pairing → Type 0
Followed L R B = (acts : List ℕ) (s : ℕ) → Run L L.start acts s → Follower L R B acts s

-- A match lets each run from either start be followed from the other.
abbrev pub RunsFollowed : Type 0
RunsFollowed = (L R : Lts) → Lawful L → Lawful R → 0 < L.states → 0 < R.states → (B : Pairing) → Match L R B → Followed L R B × Followed R L (flip B)

-- Two models and a pairing have one verdict and no other: a match exactly where the pairing is one, else the first broken
-- condition.
pub record OneVerdict (L R : Lts) (B : Pairing) : Type 0 where
  pub verdict : Verdict
  pub is : VerdictIs L R B verdict
  pub only : (v : Verdict) → VerdictIs L R B v → v ≡ verdict

abbrev pub VerdictsExact : Type 0
VerdictsExact = (L R : Lts) → Lawful L → Lawful R → (B : Pairing) → OneVerdict L R B

-- Blocked, hidden and merged systems keep the limits, have exactly the steps of the rules, and keep a match.
pub record MadeExact : Type 0 where
  pub blocked : (L : Lts) → Lawful L → (set : Actions) → set 0 ≡ false → Lawful (block set L) × Blocks set L (block set L)
  pub hidden : (L : Lts) → Lawful L → (set : Actions) → set 0 ≡ false → Lawful (hide set L) × Hides set L (hide set L)
  pub merged : (L U : Lts) → Lawful L → Lawful U → (join : Joins) → Communication join → Lawful (merge join L U) × Merges join L U (merge join L U)
