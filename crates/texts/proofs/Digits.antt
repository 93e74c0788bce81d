-- How long numbers and lines are.
use Rattle.std.proofs.Common.{◌≡◌, ℕ, ◌+◌, ◌/◌, ◌%◌, ◌^◌, ◌<◌, ◌≤◌, List, [], ◌∷◌, ◌++◌, length, decimal, sym, ap, ap₂, append_assoc, ◌∙◌, arith, length-append}
use Rattle.std.proofs.lemmas.Fmt.{decimal_digit, decimal_step, length-decimal-le}
use Rattle.texts.specs.Lines.{line}

pub one_digit : (n : ℕ) → n < 10 → 1 ≡ length (decimal n)
one_digit n h = ap length (sym (decimal_digit n h))

pub more_digits : (n : ℕ) → 10 ≤ n → n < 2 ^ 64 → length (decimal n) ≡ length (decimal (n / 10)) + 1
more_digits n h f = ap length (decimal_step n h f) ∙ length-append (decimal (n / 10)) ((48 + n % 10) ∷ [])

pub ruleset steps = (one_digit, more_digits)

-- a number of two digits, and the last two of a longer one
pub decimal_pair : (n : ℕ) → 10 ≤ n → n < 100 → decimal n ≡ (48 + n / 10) ∷ (48 + n % 10) ∷ []
decimal_pair n h l = decimal_step n h (omega arith) ∙ ap (λ d. d ++ ((48 + n % 10) ∷ [])) (decimal_digit (n / 10) (omega arith))

pub decimal_pairs : (n : ℕ) → 100 ≤ n → n < 2 ^ 64 → decimal n ≡ decimal (n / 100) ++ ((48 + n % 100 / 10) ∷ (48 + n % 100 % 10) ∷ [])
decimal_pairs n h f =
    let d : n / 10 / 10 ≡ n / 100 = omega arith in
    let e : n / 10 % 10 ≡ n % 100 / 10 = omega arith in
    let g : n % 10 ≡ n % 100 % 10 = omega arith in
    decimal_step n (omega arith) f
    ∙ ap (λ r. r ++ ((48 + n % 10) ∷ [])) (decimal_step (n / 10) (omega arith) (omega arith))
    ∙ append_assoc (decimal (n / 10 / 10)) ((48 + n / 10 % 10) ∷ []) ((48 + n % 10) ∷ [])
    ∙ ap (λ k. decimal k ++ ((48 + n / 10 % 10) ∷ (48 + n % 10) ∷ [])) d
    ∙ ap₂ (λ p q. decimal (n / 100) ++ ((48 + p) ∷ (48 + q) ∷ [])) e g

pub two_digits : (n : ℕ) → 10 ≤ n → n < 100 → 2 ≡ length (decimal n)
two_digits n h l = ap length (sym (decimal_pair n h l))

pub many_digits : (n : ℕ) → 100 ≤ n → n < 2 ^ 64 → length (decimal n) ≡ length (decimal (n / 100)) + 2
many_digits n h f = ap length (decimal_pairs n h f) ∙ length-append (decimal (n / 100)) ((48 + n % 100 / 10) ∷ (48 + n % 100 % 10) ∷ [])

pub ruleset counts = (one_digit, two_digits, many_digits)

pub line_long : (l x y z : ℕ) → length (line l x y z) ≡ length (decimal x) + length (decimal y) + length (decimal z) + 5
line_long l x y z =
    let X : List ℕ = decimal x in
    let Y : List ℕ = decimal y in
    let Z : List ℕ = decimal z in
    let C : List ℕ = 44 ∷ [] in
    let A : List ℕ = l ∷ (44 ∷ []) in
    let a = length-append (A ++ X ++ C ++ Y ++ C ++ Z) (10 ∷ []) in
    let b = length-append (A ++ X ++ C ++ Y ++ C) Z in
    let c = length-append (A ++ X ++ C ++ Y) C in
    let d = length-append (A ++ X ++ C) Y in
    let e = length-append (A ++ X) C in
    let f = length-append A X in
    omega arith

pub line_most : (l x y z : ℕ) → x < 65536 → y < 65536 → z < 65536 → length (line l x y z) ≤ 20
line_most l x y z p q r = omega (arith, line_long l x y z, length-decimal-le 5 x (omega arith) (omega arith) (omega arith), length-decimal-le 5 y (omega arith) (omega arith) (omega arith), length-decimal-le 5 z (omega arith) (omega arith) (omega arith))
