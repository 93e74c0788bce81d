-- The next right state that stands with a left one.
use Rattle.std.specs.Prelude.{◌≡◌, ℕ, ◌<◌, ◌≤◌, Bool, true, Some, None, Option, ◌≢◌}

-- No state from `from` on and below n stands.
abbrev pub NoneFrom : (ℕ → Bool) → ℕ → ℕ → Type 0
NoneFrom stands from n = (t : ℕ) → from ≤ t → t < n → stands t ≢ true

-- The lowest state from `from` on and below n that stands, if there is one.
abbrev pub Next : (ℕ → Bool) → ℕ → ℕ → Option ℕ → Type 0
Next stands from n None = NoneFrom stands from n
Next stands from n (Some t) = (from ≤ t) × (t < n) × (stands t ≡ true) × NoneFrom stands from t
