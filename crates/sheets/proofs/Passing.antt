-- The search of a row for the next pair that stands.
use Rattle.std.proofs.Common.{◌≡◌, ℕ, ◌+◌, ◌-◌, ◌*◌, ◌/◌, ◌%◌, ◌^◌, ◌<◌, ◌≤◌, min, true, false, eqb, List, length, get_or, Option, sym, ap, ◌∙◌, subst, ap₂, ⊎_elim, arith}
use native.Mathlib.Nat.{zero-div}
use lib.Bits.{bit_and}
use Rattle.std.proofs.lemmas.Nat.{shr-shr}
use Rattle.std.proofs.lemmas.Bool.{cases_lt, false≢true, eq-eqb, ne_eqb}
use Rattle.pairings.specs.Next.{NoneFrom, Next}
use Rattle.transitions.specs.Match.{Pairing}
use Rattle.sheets.specs.declared.size.Size.{Size}
use Rattle.sheets.specs.Bits.{bit, paired}
use Rattle.sheets.specs.Gaps.{Gap}
use Rattle.sheets.specs.Sheets.{in_force, stood}
use Rattle.sheets.proofs.Reading.{bit_read, paired_in, out_left, out_right}

-- The rest of a byte is 0.
rest_zeros : (bytes : List ℕ) (i : ℕ) → get_or bytes (i / 8) 0 / 2 ^ (i % 8) ≡ 0 → (k : ℕ) → k < 8 - i % 8 → bit bytes (i + k) ≡ false
rest_zeros bytes i z k h =
    let byte : (i + k) / 8 ≡ i / 8 = omega arith in
    let at : (i + k) % 8 ≡ i % 8 + k = omega arith in
    let b : ℕ = get_or bytes (i / 8) 0 in
    ap₂ (λ (x y : ℕ). eqb ((get_or bytes x 0 / 2 ^ y) % 2) 1) byte at
    ∙ ap (λ (x : ℕ). eqb (x % 2) 1) (sym (shr-shr b (i % 8) k) ∙ ap (λ (x : ℕ). x / 2 ^ k) z ∙ zero-div (2 ^ k))

pub gap_rest : (bytes : List ℕ) (i : ℕ) → get_or bytes (i / 8) 0 / 2 ^ (i % 8) ≡ 0 → Gap bytes i (8 - i % 8)
gap_rest bytes i z = record { few = omega arith; zeros = rest_zeros bytes i z; one = λ e. absurd (omega arith) }

pub gap_none : (bytes : List ℕ) (i : ℕ) → bit_and (get_or bytes (i / 8) 0 / 2 ^ (i % 8)) 1 ≡ 1 → Gap bytes i 0
gap_none bytes i h = record { few = omega arith; zeros = λ k l. absurd (omega arith); one = λ _. sym (bit_read bytes i) ∙ eq-eqb _ _ h }

pub gap_one : (bytes : List ℕ) (i : ℕ) → (bit_and (get_or bytes (i / 8) 0 / 2 ^ (i % 8)) 1 ≡ 1 → ⊥) → Gap bytes i 1
gap_one bytes i h =
    record {
      few = omega arith;
      zeros = λ k l. let e : i + k ≡ i = omega arith in ap (bit bytes) e ∙ sym (bit_read bytes i) ∙ ne_eqb _ _ h;
      one = λ e. absurd (omega arith);
    }

-- What is found by the sizes in force, n by m, is found on the sheet.
pub found : (z : Size) (bytes : List ℕ) (n m s from below : ℕ) → n ≡ in_force z (length bytes) z.rows → m ≡ in_force z (length bytes) z.columns
    → (r : Option ℕ) → Next (paired n m bytes s) from below r → Next (stood z bytes s) from below r
found z bytes n m s from below en em r h = subst (λ (B : Pairing). Next (B s) from below r) (ap₂ (λ (x y : ℕ). paired x y bytes) en em) h

module _ (bytes : List ℕ) (n m s : ℕ) where
  pub no_row : (from to : ℕ) → n ≤ s → NoneFrom (paired n m bytes s) from to
  no_row from to h u lo hi e = false≢true (sym (out_left n m bytes s u h) ∙ e)

  module _ (hs : s < n) where
    pub stands_here : (t : ℕ) → t < m → bit bytes (s * m + t) ≡ true → paired n m bytes s t ≡ true
    stands_here t h e = paired_in n m bytes s t hs h ∙ e

    past : (u : ℕ) → m ≤ u → paired n m bytes s u ≡ true → ⊥
    past u h e = false≢true (sym (out_right n m bytes s u hs h) ∙ e)

    zero_bit : (u : ℕ) → bit bytes (s * m + u) ≡ false → paired n m bytes s u ≡ true → ⊥
    zero_bit u h e = ⊎_elim (λ (l : u < m). false≢true (sym (paired_in n m bytes s u hs l ∙ h) ∙ e)) (λ (l : m ≤ u). past u l e) (cases_lt u m)

    pub passed_more : (from t k : ℕ) → NoneFrom (paired n m bytes s) from t → Gap bytes (s * m + t) k → NoneFrom (paired n m bytes s) from (t + k)
    passed_more from t k none gap u lo hi e =
        ⊎_elim (λ (l : u < t). none u lo l e)
        (λ (l : t ≤ u).
        let d : s * m + t + (u - t) ≡ s * m + u = omega arith in
        zero_bit u (ap (bit bytes) (sym d) ∙ gap.zeros (u - t) (omega arith)) e)
        (cases_lt u t)

    pub passed_all : (from t below end : ℕ) → end ≡ min below m → end ≤ t → NoneFrom (paired n m bytes s) from t → NoneFrom (paired n m bytes s) from below
    passed_all from t below end is h none u lo hi e =
        ⊎_elim (λ (l : u < t). none u lo l e) (λ (l : t ≤ u). past u (omega arith) e) (cases_lt u t)
