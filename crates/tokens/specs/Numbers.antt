-- The numbers and sets that a field can be.
use Rattle.std.specs.Prelude.{ℕ, ◌+◌, ◌-◌, ◌*◌, Bool, true, false, cond, not, ◌&&◌, List, [], ◌∷◌, length, Some, None, Option, ◌==◌, nat_le}

abbrev pub is_digit : ℕ → Bool
is_digit b = nat_le 48 b && nat_le b 57

abbrev pub all_digits : List ℕ → Bool
all_digits [] = true
all_digits (b ∷ bs) = is_digit b && all_digits bs

-- The value of decimal digits behind the value v.
abbrev pub value_on : ℕ → List ℕ → ℕ
value_on v [] = v
value_on v (b ∷ bs) = let w = 10 * v + (b - 48) in value_on w bs

-- At least one byte, and no leading zero before another.
abbrev pub plain : List ℕ → Bool
plain [] = false
plain (b ∷ []) = true
plain (b ∷ c ∷ bs) = not (b == 48)

-- A number is one to five digits without a leading zero, 0 itself excepted.
abbrev pub number : List ℕ → Option ℕ
number f = cond (plain f && nat_le (length f) 5 && all_digits f) (Some (value_on 0 f)) None

abbrev pub hex_value : ℕ → Option ℕ
hex_value b = cond (is_digit b) (Some (b - 48)) (cond (nat_le 97 b && nat_le b 102) (Some (b - 87)) None)

-- The value of hexadecimal digits behind the value v.
abbrev pub hex_on : ℕ → List ℕ → Option ℕ
hex_on v [] = Some v
hex_on v (b ∷ bs) = elim (hex_value b) [ None ↦ None | Some d ↦ hex_on (16 * v + d) bs ]

-- A set is sixteen hexadecimal digits.
abbrev pub set : List ℕ → Option ℕ
set f = cond (length f == 16) (hex_on 0 f) None
