-- The pairs of a sheet as bits of its bytes.
use Rattle.std.specs.Prelude.{ℕ, ◌+◌, ◌-◌, ◌*◌, ◌/◌, ◌%◌, ◌^◌, Bool, ◌&&◌, List, ◌==◌, bit_and, bit_or, nat_lt, slice_index, slice_set}
use Rattle.transitions.specs.Match.{Pairing}

-- Bit i mod 8 of byte i ÷ 8.
abbrev pub bit : List ℕ → ℕ → Bool
bit bytes i = (slice_index bytes (i / 8) / 2 ^ (i % 8)) % 2 == 1

-- The same bytes with that bit put in, and with it out.
abbrev pub with_bit : List ℕ → ℕ → List ℕ
with_bit bytes i = slice_set bytes (i / 8) (bit_or (slice_index bytes (i / 8)) (2 ^ (i % 8)))

abbrev pub without_bit : List ℕ → ℕ → List ℕ
without_bit bytes i = slice_set bytes (i / 8) (bit_and (slice_index bytes (i / 8)) (255 - 2 ^ (i % 8)))

-- The bytes that rows times columns pairs need.
abbrev pub needed : ℕ → ℕ → ℕ
needed rows columns = (rows * columns + 7) / 8

-- On a sheet of these sizes the pair (s, t) is bit s times the columns and t. Out of range nothing stands.
abbrev pub paired : ℕ → ℕ → List ℕ → Pairing
paired rows columns bytes s t = nat_lt s rows && (nat_lt t columns && bit bytes (s * columns + t))
