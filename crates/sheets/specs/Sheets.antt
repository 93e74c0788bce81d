-- The sizes of a sheet and its standing pairs.
use Rattle.std.specs.Prelude.{◌≡◌, ℕ, cond, List, length, nat_le}
use Rattle.sheets.specs.declared.size.Size.{Size}
use Rattle.sheets.specs.declared.sheet.Sheet.{Sheet}
use Rattle.sheets.specs.Bits.{needed, paired}
use Rattle.transitions.specs.Match.{Pairing}

-- A kept size counts where the bytes suffice for both sizes, and is 0 otherwise.
abbrev pub in_force : Size → ℕ → ℕ → ℕ
in_force z bytes n = cond (nat_le (needed z.rows z.columns) bytes) n 0

abbrev pub stood : Size → List ℕ → Pairing
stood z bytes = paired (in_force z (length bytes) z.rows) (in_force z (length bytes) z.columns) bytes

abbrev pub rows_of : Sheet → ℕ
rows_of v = in_force v.size (length v.bytes.now) v.size.rows

abbrev pub columns_of : Sheet → ℕ
columns_of v = in_force v.size (length v.bytes.now) v.size.columns

-- The standing pairs.
abbrev pub standing : Sheet → Pairing
standing v = stood v.size v.bytes.now

-- The sheet keeps its sizes, over the same lent bytes.
pub record Kept (v w : Sheet) : Type 0 where
  pub rows : rows_of w ≡ rows_of v
  pub columns : columns_of w ≡ columns_of v
  pub lent : w.bytes.ghost_name ≡ v.bytes.ghost_name
