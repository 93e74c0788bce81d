-- Digits one by one: what is left gives the whole.
use Rattle.std.proofs.Common.{◌≡◌, ℕ, ◌+◌, ◌-◌, ◌*◌, ◌^◌, ◌<◌, ◌≤◌, true, false, ◌&&◌, List, length, get_or, drop, Some, None, Option, sym, ap, ◌∙◌, pow-suc, add-one, arith}
use native.Mathlib.Nat.{pow-le-pow_right}
use Rattle.std.proofs.lemmas.Bool.{and_left}
use Rattle.std.proofs.lemmas.List.{at_drop_more}
use Rattle.tokens.specs.Numbers.{is_digit, all_digits, value_on, hex_value, hex_on}

pub digits_bad : (xs : List ℕ) (i : ℕ) → i < length xs → all_digits (drop i xs) ≡ all_digits xs → is_digit (get_or xs i 0) ≡ false → all_digits xs ≡ false
digits_bad xs i l e h = sym e ∙ at_drop_more all_digits xs i 0 l ∙ and_left (is_digit (get_or xs i 0)) (all_digits (drop (i + 1) xs)) h

pub digits_more : (xs : List ℕ) (i : ℕ) → i < length xs → all_digits (drop i xs) ≡ all_digits xs → is_digit (get_or xs i 0) ≡ true → all_digits (drop (i + 1) xs) ≡ all_digits xs
digits_more xs i l e h = sym (ap (λ b. b && all_digits (drop (i + 1) xs)) h) ∙ sym (at_drop_more all_digits xs i 0 l) ∙ e

pub value_more : (xs : List ℕ) (i v w : ℕ) → i < length xs → value_on v (drop i xs) ≡ w → value_on (10 * v + (get_or xs i 0 - 48)) (drop (i + 1) xs) ≡ w
value_more xs i v w l e = sym (at_drop_more (value_on v) xs i 0 l) ∙ e

pub ten_more : (v d i : ℕ) → v < 10 ^ i → d < 10 → 10 * v + d < 10 ^ (i + 1)
ten_more v d i h l = rw (add-one, pow-suc) (omega arith)

pub sixteen_more : (v d i : ℕ) → v < 16 ^ i → d < 16 → 16 * v + d < 16 ^ (i + 1)
sixteen_more v d i h l = rw (add-one, pow-suc) (omega arith)

pub ten_few : (v i : ℕ) → v < 10 ^ i → i ≤ 5 → v < 100000
ten_few v i h l = let ten : 10 ^ i ≤ 10 ^ 5 = pow-le-pow_right {n = 10} (omega arith) {i = i} {j = 5} l in omega arith

pub sixteen_few : (v i : ℕ) → v < 16 ^ i → i < 16 → v < 16 ^ 15
sixteen_few v i h l = let most : 16 ^ i ≤ 16 ^ 15 = pow-le-pow_right {n = 16} (omega arith) {i = i} {j = 15} (omega arith) in omega arith

pub hex_bad : (xs : List ℕ) (i v : ℕ) → i < length xs → hex_on v (drop i xs) ≡ hex_on 0 xs → hex_value (get_or xs i 0) ≡ None → hex_on 0 xs ≡ None
hex_bad xs i v l e h = sym e ∙ at_drop_more (hex_on v) xs i 0 l ∙ ap (λ (o : Option ℕ). elim o [ None ↦ None | Some d ↦ hex_on (16 * v + d) (drop (i + 1) xs) ]) h

pub hex_more : (xs : List ℕ) (i v d : ℕ) → i < length xs → hex_on v (drop i xs) ≡ hex_on 0 xs → hex_value (get_or xs i 0) ≡ Some d → hex_on (16 * v + d) (drop (i + 1) xs) ≡ hex_on 0 xs
hex_more xs i v d l e h = sym (at_drop_more (hex_on v) xs i 0 l ∙ ap (λ (o : Option ℕ). elim o [ None ↦ None | Some d ↦ hex_on (16 * v + d) (drop (i + 1) xs) ]) h) ∙ e
