-- Bits that are passed at once.
use Rattle.std.specs.Prelude.{◌≡◌, ℕ, ◌+◌, ◌<◌, ◌≤◌, true, false, List}
use Rattle.sheets.specs.Bits.{bit}

-- The n bits from bit i on are 0, and where n is 0, bit i is 1.
pub record Gap (bytes : List ℕ) (i n : ℕ) : Type 0 where
  pub few : n ≤ 8
  pub zeros : (k : ℕ) → k < n → bit bytes (i + k) ≡ false
  pub one : n ≡ 0 → bit bytes i ≡ true
