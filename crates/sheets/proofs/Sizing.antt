-- The sizes in force, and what stands on a new sheet.
use Rattle.std.proofs.Common.{◌≡◌, ℕ, ◌+◌, ◌*◌, ◌/◌, ◌%◌, ◌^◌, ◌<◌, ◌≤◌, Bool, true, false, cond, eqb, ltb, leb, List, length, get_or, sym, refl, ap, ◌∙◌, subst, ap₂, ⊎_elim, arith, length-set}
use mathlib.Core.Path.{fun_ext}
use lib.Bits.{bit_and}
use Rattle.std.proofs.lemmas.Nat.{mul-add-lt}
use Rattle.std.proofs.lemmas.Bool.{cases_lt, leb-true, ltb-true, and_parts, and_from, lt-ltb, le-leb, or_left, or_right, false≢true, eq-eqb}
use Rattle.transitions.specs.Lts.{Lts}
use Rattle.transitions.specs.Match.{Pairing}
use Rattle.sheets.specs.declared.size.Size.{Size}
use Rattle.sheets.specs.Bits.{needed, paired, with_bit, without_bit}
use Rattle.sheets.specs.Calls.{no_pairs, adding, removing, in_range, blank, opens}
use Rattle.sheets.specs.Sheets.{in_force, stood}
use Rattle.sheets.proofs.Reading.{bit_read, bit_blank, has_byte, paired_in, out_left, out_right}
use Rattle.sheets.proofs.Putting.{put_pairs}
use Rattle.sheets.proofs.Taking.{taken_pairs}

-- A pair in range of the sizes in force has a byte.
pub byte_there : (n m bytes s t : ℕ) (fits : Bool) → fits ≡ leb (needed n m) bytes → s < cond fits n 0 → t < cond fits m 0 → (s * cond fits m 0 + t) / 8 < bytes
byte_there n m bytes s t true e p q = has_byte n m bytes s t (leb-true _ _ (sym e)) p q
byte_there n m bytes s t false e p q = absurd (omega arith)

-- A pair in range of the sizes in force, n by m.
module _ (z : Size) (bytes : List ℕ) (n m s t : ℕ) (en : n ≡ in_force z (length bytes) z.rows) (em : m ≡ in_force z (length bytes) z.columns) (h : in_range n m s t ≡ true) where
  low : s < n
  low = ltb-true s n (and_parts (ltb s n) (ltb t m) h).0

  short : t < m
  short = ltb-true t m (and_parts (ltb s n) (ltb t m) h).1

  pub there : (s * m + t) / 8 < length bytes
  there =
      subst (λ (x : ℕ). (s * x + t) / 8 < length bytes) (sym em)
      (byte_there z.rows z.columns (length bytes) s t (leb (needed z.rows z.columns) (length bytes)) refl (subst (λ (x : ℕ). s < x) en low) (subst (λ (x : ℕ). t < x) em short))

  -- Over bytes of the same length the same sizes are in force.
  pub sized : (after : List ℕ) → length after ≡ length bytes → stood z after ≡ paired n m after
  sized after e =
      ap (λ (k : ℕ). paired (in_force z k z.rows) (in_force z k z.columns) after) e
      ∙ ap₂ (λ (x y : ℕ). paired x y after) (sym en) (sym em)

  pub read : eqb (bit_and (get_or bytes ((s * m + t) / 8) 0 / 2 ^ ((s * m + t) % 8)) 1) 1 ≡ stood z bytes s t
  read =
      bit_read bytes (s * m + t)
      ∙ sym (paired_in n m bytes s t low short)
      ∙ ap (λ (B : Pairing). B s t) (sym (sized bytes refl))

  pub put_stood : (after : List ℕ) → after ≡ with_bit bytes (s * m + t) → stood z after ≡ adding (stood z bytes) s t
  put_stood after e =
      ap (stood z) e
      ∙ sized (with_bit bytes (s * m + t)) (length-set bytes _ _)
      ∙ put_pairs n m bytes s t low short there
      ∙ ap (λ (B : Pairing). adding B s t) (sym (sized bytes refl))

  pub taken_stood : (after : List ℕ) → after ≡ without_bit bytes (s * m + t) → stood z after ≡ removing (stood z bytes) s t
  taken_stood after e =
      ap (stood z) e
      ∙ sized (without_bit bytes (s * m + t)) (length-set bytes _ _)
      ∙ taken_pairs n m bytes s t short there
      ∙ ap (λ (B : Pairing). removing B s t) (sym (sized bytes refl))

  -- The bit's number by the sizes in force.
  pub numbered : {A : Type 0} (f : ℕ → A) → f (s * m + t) ≡ f (s * in_force z (length bytes) z.columns + t)
  numbered f = ap (λ (x : ℕ). f (s * x + t)) em

-- On bytes that are 0 nothing stands.
pub none_stand : (n m : ℕ) (bytes : List ℕ) → ((k : ℕ) → k < needed n m → get_or bytes k 0 ≡ 0) → paired n m bytes ≡ no_pairs
none_stand n m bytes z =
    fun_ext (λ x. fun_ext (λ y.
    ⊎_elim
    (λ (p : x < n).
    ⊎_elim
    (λ (q : y < m).
    let low : (x * m + y) / 8 < needed n m = omega (arith, mul-add-lt x m y n p q) in
    paired_in n m bytes x y p q ∙ bit_blank bytes (x * m + y) (z _ low))
    (λ (q : m ≤ y). out_right n m bytes x y p q) (cases_lt y m))
    (λ (p : n ≤ x). out_left n m bytes x y p) (cases_lt x n)))

-- The sizes of a sheet that is not blank.
module _ (L R : Lts) (z : Size) (len : ℕ) (el : z.rows ≡ L.states) (er : z.columns ≡ R.states) (some : blank z.rows z.columns ≡ false) (fits : needed z.rows z.columns ≤ len) where
  pub fitting : (n : ℕ) → in_force z len n ≡ n
  fitting n = ap (λ (b : Bool). cond b n 0) (le-leb (needed z.rows z.columns) len fits)

  some_rows : z.rows ≡ 0 → ⊥
  some_rows e = false≢true (sym some ∙ or_left (eqb z.rows 0) _ (eq-eqb z.rows 0 e))

  some_columns : z.columns ≡ 0 → ⊥
  some_columns e = false≢true (sym some ∙ or_right (eqb z.rows 0) _ (eq-eqb z.columns 0 e))

  pub opening : opens L R len ≡ true
  opening =
      and_from _ _ (lt-ltb 0 L.states (omega (arith, some_rows, el)))
      (and_from _ _ (lt-ltb 0 R.states (omega (arith, some_columns, er))) (le-leb _ _ (subst (λ (x : ℕ). needed x R.states ≤ len) el (subst (λ (y : ℕ). needed z.rows y ≤ len) er fits))))
