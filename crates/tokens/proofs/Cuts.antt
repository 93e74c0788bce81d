-- Where the separator first stands, a text is cut.
use Rattle.std.proofs.Common.{◌≡◌, ℕ, suc, ◌+◌, ◌<◌, Bool, true, false, cond, eqb, ltb, List, [], ◌∷◌, ◌++◌, length, get_or, take, drop, Some, None, Option, Bor, refl, sym, ap, ◌∙◌, add-one, drop-cons, arith}
use Rattle.std.specs.List.{All, position, position_or_len}
use Rattle.std.specs.Option.{IfSome, IfNone}
use Rattle.std.proofs.lemmas.Bool.{eqb-true, ltb-false, cond-false}
use Rattle.std.proofs.lemmas.List.{take-append-drop, get_or-take, length-take-le}
use Rattle.std.proofs.lemmas.List.Quantifiers.{position-Some}
use Rattle.std.proofs.lemmas.List.Splits.{slice_split_none, slice_split_at, length-slice_split}
use Rattle.std.proofs.lemmas.List.Sums.{fails_before_first}
use Rattle.tokens.specs.Lines.{whole, cut, grow, raw_lines, last_piece, fields}

-- The two parts of a text, and the separator between them.
pub cut_at : (s i : ℕ) (xs : List ℕ) → position (λ b. eqb b s) xs ≡ Some i → xs ≡ take i xs ++ (s ∷ drop (i + 1) xs)
cut_at s i xs e =
    let h = position-Some (λ b. eqb b s) xs i 0 e in
    let l : i < length xs = h.0 in
    sym (take-append-drop i xs) ∙ ap (λ z. take i xs ++ z) (rw (drop-cons xs i 0, eqb-true (get_or xs i 0) s h.1, ← add-one i) refl)

pub lacks_before : (s i : ℕ) (xs : List ℕ) → position (λ b. eqb b s) xs ≡ Some i → All (λ b. eqb b s ≡ false) (take i xs)
lacks_before s i xs e k d l =
    let h = position-Some (λ b. eqb b s) xs i d e in
    let n : length (take i xs) ≡ i = length-take-le i xs (omega arith) in
    rw (get_or-take i xs k d (omega arith)) (h.2 k (omega arith))

-- Where it stands nowhere, no place holds it.
pub nowhere : (s : ℕ) (xs : List ℕ) → position (λ b. eqb b s) xs ≡ None → All (λ b. eqb b s ≡ false) xs
nowhere s xs e k d l = fails_before_first (λ b. eqb b s) xs k d (go (ltb n (length xs)) refl e)
  where
    n : ℕ
    n = position_or_len (λ b. eqb b s) xs

    go : (b : Bool) → ltb n (length xs) ≡ b → cond b (Some n) None ≡ None → k < n
    go true f h = cc
    go false f h = omega (arith, ltb-false n (length xs) f)

-- A line ends at the first line feed.
lines_at : (xs ys : List ℕ) → All (λ b. eqb b 10 ≡ false) xs → raw_lines (xs ++ (10 ∷ ys)) ≡ whole xs ∷ raw_lines ys
lines_at [] ys h = refl
lines_at (x ∷ xs) ys h = cond-false (eqb x 10) (whole [] ∷ raw_lines (xs ++ (10 ∷ ys))) (grow x (raw_lines (xs ++ (10 ∷ ys)))) (h 0 0 (omega arith)) ∙ ap (grow x) (lines_at xs ys (λ k d l. h (suc k) d (omega arith)))

lines_last : (xs : List ℕ) → All (λ b. eqb b 10 ≡ false) xs → raw_lines xs ≡ last_piece xs
lines_last [] h = refl
lines_last (x ∷ []) h = cond-false (eqb x 10) (whole [] ∷ []) (cut (x ∷ []) ∷ []) (h 0 0 (omega arith))
lines_last (x ∷ y ∷ xs) h = cond-false (eqb x 10) (whole [] ∷ raw_lines (y ∷ xs)) (grow x (raw_lines (y ∷ xs))) (h 0 0 (omega arith)) ∙ ap (grow x) (lines_last (y ∷ xs) (λ k d l. h (suc k) d (omega arith)))

-- What `split_once` answers, as lines and as fields.
module _ (bs : List ℕ) where
  pub line_is : (r : Option (Bor (List ℕ) × Bor (List ℕ))) → IfSome r (λ p. bs ≡ p.0.now ++ (10 ∷ p.1.now)) → IfSome r (λ p. All (λ b. eqb b 10 ≡ false) p.0.now) → IfSome r (λ p. raw_lines bs ≡ whole p.0.now ∷ raw_lines p.1.now)
  line_is None e f = tt
  line_is (Some p) e f = ap raw_lines e ∙ lines_at p.0.now p.1.now f

  pub last_is : {A : Type 0} (r : Option A) → IfNone r (All (λ b. eqb b 10 ≡ false) bs) → IfNone r (raw_lines bs ≡ last_piece bs)
  last_is None h = lines_last bs h
  last_is (Some p) h = tt

  pub field_is : (r : Option (Bor (List ℕ) × Bor (List ℕ))) → IfSome r (λ p. bs ≡ p.0.now ++ (44 ∷ p.1.now)) → IfSome r (λ p. All (λ b. eqb b 44 ≡ false) p.0.now) → IfSome r (λ p. fields bs ≡ p.0.now ∷ fields p.1.now)
  field_is None e f = tt
  field_is (Some p) e f = ap fields e ∙ slice_split_at (λ b. eqb b 44) p.0.now 44 p.1.now f refl

  pub last_field_is : {A : Type 0} (r : Option A) → IfNone r (All (λ b. eqb b 44 ≡ false) bs) → IfNone r (fields bs ≡ bs ∷ [])
  last_field_is None h = slice_split_none (λ b. eqb b 44) bs h
  last_field_is (Some p) h = tt

pub fields_some : (xs : List ℕ) → 0 < length (fields xs)
fields_some xs = omega (arith, length-slice_split (λ b. eqb b 44) xs)

pub more_is : (r : Option (Bor (List ℕ) × Bor (List ℕ))) → IfSome r (λ p. 0 < length (fields p.1.now))
more_is None = tt
more_is (Some p) = fields_some p.1.now
