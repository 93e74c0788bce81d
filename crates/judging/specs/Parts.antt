-- What the parts of the judge say: of one condition, of the places of a state, of a pair, of a row of pairs, of all pairs.
use Rattle.std.specs.Prelude.{ℕ, ◌<◌, Bool, true, false, Some, None, Ok, Err, Option}
use Rattle.transitions.specs.Lts.{Lts}
use Rattle.transitions.specs.Match.{Pairing, Stands}
use Rattle.transitions.specs.Verdict.{First, Verdict}
use Rattle.transitions.proofs.Firsts.{Upto, PairsBefore}

-- The test tells whether P holds.
abbrev pub Tells : Bool → Type 0 → Type 0
Tells true P = P
Tells false P = P → ⊥

-- The lowest place below w at which P does not hold, if there is one.
abbrev pub Lowest : ℕ → (ℕ → Type 0) → Option ℕ → Type 0
Lowest w P None = (p : ℕ) → p < w → P p
Lowest w P (Some p) = (p < w) × (P p → ⊥) × ((q : ℕ) → q < p → P q)

-- All conditions of the pair (s, t) hold, or k is the first broken one of all if the start pair stands and those of the pairs
-- before it hold.
abbrev pub PairJudged : Lts → Lts → Pairing → ℕ → ℕ → Verdict → Type 0
PairJudged L R B s t (Ok _) = Upto L R B s t 4 0
PairJudged L R B s t (Err k) = Stands B L.start R.start → PairsBefore L R B s t → First L R B k

-- The same of the pairs of s.
abbrev pub RowJudged : Lts → Lts → Pairing → ℕ → Verdict → Type 0
RowJudged L R B s (Ok _) = (t : ℕ) → t < R.states → Upto L R B s t 4 0
RowJudged L R B s (Err k) = Stands B L.start R.start → PairsBefore L R B s 0 → First L R B k

-- The same of all pairs.
abbrev pub RowsJudged : Lts → Lts → Pairing → Verdict → Type 0
RowsJudged L R B (Ok _) = (s : ℕ) → s < L.states → (t : ℕ) → t < R.states → Upto L R B s t 4 0
RowsJudged L R B (Err k) = Stands B L.start R.start → First L R B k
