-- When a pairing of the states of two models is a match of them: a rooted branching bisimulation.
use Rattle.std.specs.Prelude.{◌≡◌, ℕ, ◌<◌, Bool, true, ◌⊎◌}
use Rattle.transitions.specs.Lts.{Lts, Steps, Silent}

-- Which states of a left and a right model are set side by side.
abbrev pub Pairing : Type 0
Pairing = ℕ → ℕ → Bool

-- The pairing with the sides exchanged.
abbrev pub flip : Pairing → Pairing
flip B t s = B s t

-- (s, t) stands.
abbrev pub Stands : Pairing → ℕ → ℕ → Type 0
Stands B s t = B s t ≡ true

-- t leads by silent steps to an m that stands with s and does a to a t' that stands with s'.
pub record Moves (R : Lts) (B : Pairing) (s t a s' : ℕ) : Type 0 where
  pub middle : ℕ
  pub target : ℕ
  pub leads : Silent R t middle
  pub keeps : Stands B s middle
  pub steps : Steps R middle a target
  pub stands : Stands B s' target

-- A step a of s to s' is answered by t: t stays, where a is silent and s' stands with t, or t moves.
abbrev pub Answered : Lts → Pairing → ℕ → ℕ → ℕ → ℕ → Type 0
Answered R B s t a s' = ((a ≡ 0) × Stands B s' t) ⊎ Moves R B s t a s'

-- The end of s is answered by t: t leads by silent steps to an m that stands with s and may end.
pub record Ended (R : Lts) (B : Pairing) (s t : ℕ) : Type 0 where
  pub middle : ℕ
  pub leads : Silent R t middle
  pub keeps : Stands B s middle
  pub ends : R.ends middle ≡ true

-- A step a of the one start to s' is answered by one step of the other start. A silent one may not stay.
pub record Rooted (R : Lts) (B : Pairing) (a s' : ℕ) : Type 0 where
  pub target : ℕ
  pub steps : Steps R R.start a target
  pub stands : Stands B s' target

-- What the left model does, the right one answers.
pub record Simulates (L R : Lts) (B : Pairing) : Type 0 where
  pub step : (s t : ℕ) → s < L.states → t < R.states → Stands B s t → (a s' : ℕ) → Steps L s a s' → Answered R B s t a s'
  pub end : (s t : ℕ) → s < L.states → t < R.states → Stands B s t → L.ends s ≡ true → Ended R B s t
  pub root : (a s' : ℕ) → Steps L L.start a s' → Rooted R B a s'

-- The start pair stands, and each side answers the other.
pub record Match (L R : Lts) (B : Pairing) : Type 0 where
  pub starts : Stands B L.start R.start
  pub left : Simulates L R B
  pub right : Simulates R L (flip B)
