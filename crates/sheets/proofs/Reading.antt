-- The reading of a pair's bit.
use Rattle.std.proofs.Common.{◌≡◌, ℕ, ◌+◌, ◌*◌, ◌/◌, ◌%◌, ◌^◌, ◌<◌, ◌≤◌, Bool, false, ◌&&◌, eqb, ltb, List, get_or, ap, ◌∙◌, ⊎_elim, arith}
use native.Mathlib.Nat.{zero-div}
use lib.Bits.{bit_and}
use Rattle.std.proofs.lemmas.Nat.{and_mask, mul-add-lt, div_below}
use Rattle.std.proofs.lemmas.Bool.{lt-ltb, le-ltb, eq-eqb, ne_eqb, cases_eq}
use Rattle.sheets.specs.Bits.{bit, needed, paired}

pub bit_read : (bytes : List ℕ) (i : ℕ) → eqb (bit_and (get_or bytes (i / 8) 0 / 2 ^ (i % 8)) 1) 1 ≡ bit bytes i
bit_read bytes i = ap (λ (x : ℕ). eqb x 1) (and_mask (get_or bytes (i / 8) 0 / 2 ^ (i % 8)) 1)

-- A bit of a byte that is 0.
pub bit_blank : (bytes : List ℕ) (i : ℕ) → get_or bytes (i / 8) 0 ≡ 0 → bit bytes i ≡ false
bit_blank bytes i h = ap (λ (v : ℕ). eqb ((v / 2 ^ (i % 8)) % 2) 1) h ∙ ap (λ (v : ℕ). eqb (v % 2) 1) (zero-div (2 ^ (i % 8)))

-- Where the bytes suffice, each pair in range has a byte.
pub has_byte : (n m bytes s t : ℕ) → needed n m ≤ bytes → s < n → t < m → (s * m + t) / 8 < bytes
has_byte n m bytes s t h p q = div_below (s * m + t) 8 bytes (omega arith) (omega (arith, mul-add-lt s m t n p q))

pub not_both : (a b c d : ℕ) → (a ≡ c → b ≡ d → ⊥) → (eqb a c && eqb b d) ≡ false
not_both a b c d f =
    ⊎_elim (λ (e : a ≡ c). ap (λ (z : Bool). z && eqb b d) (eq-eqb a c e) ∙ ne_eqb b d (f e))
    (λ (e : a ≡ c → ⊥). ap (λ (z : Bool). z && eqb b d) (ne_eqb a c e)) (cases_eq a c)

module _ (rows columns : ℕ) (bytes : List ℕ) (x y : ℕ) where
  pub paired_in : x < rows → y < columns → paired rows columns bytes x y ≡ bit bytes (x * columns + y)
  paired_in p q =
      ap (λ (z : Bool). z && (ltb y columns && bit bytes (x * columns + y))) (lt-ltb x rows p) ∙ ap (λ (z : Bool). z && bit bytes (x * columns + y)) (lt-ltb y columns q)

  pub out_left : rows ≤ x → paired rows columns bytes x y ≡ false
  out_left p = ap (λ (z : Bool). z && (ltb y columns && bit bytes (x * columns + y))) (le-ltb x rows p)

  pub out_right : x < rows → columns ≤ y → paired rows columns bytes x y ≡ false
  out_right p q =
      ap (λ (z : Bool). z && (ltb y columns && bit bytes (x * columns + y))) (lt-ltb x rows p) ∙ ap (λ (z : Bool). z && bit bytes (x * columns + y)) (le-ltb y columns q)
