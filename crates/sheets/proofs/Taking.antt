-- A pair's bit is out of its byte, and no other pair is.
use Rattle.std.proofs.Common.{◌≡◌, ℕ, zero, suc, ◌+◌, ◌-◌, ◌*◌, ◌/◌, ◌%◌, ◌^◌, ◌<◌, ◌≤◌, Bool, true, false, cond, not, ◌&&◌, eqb, List, length, get_or, set, sym, refl, ap, ◌∙◌, ⊎_elim, arith, get_or-set_other, get_or-set_same}
use mathlib.Core.Path.{fun_ext}
use lib.Bits.{bit_and}
use Rattle.std.proofs.lemmas.Bool.{eq-eqb, ne_eqb, eqb-true, and_parts, cases_eq, cases_lt}
use Rattle.std.proofs.lemmas.Nat.{and_mask, and_shr, and_mod, and_le_r, div-mul-add, mod-mul-add, mod_below, one_shl}
use Rattle.sheets.specs.Bits.{bit, paired, without_bit}
use Rattle.sheets.specs.Calls.{removing}
use Rattle.sheets.proofs.Reading.{paired_in, out_left, out_right, not_both}

-- A test of all numbers below n, and what it says of each.
abbrev all_below : ℕ → (ℕ → Bool) → Bool
all_below zero p = true
all_below (suc n) p = p n && all_below n p

all_at : (n : ℕ) (p : ℕ → Bool) → all_below n p ≡ true → (k : ℕ) → k < n → p k ≡ true
all_at zero p h k l = absurd (omega arith)
all_at (suc n) p h k l =
    let two = and_parts (p n) (all_below n p) h in
    ⊎_elim (λ (e : k ≡ n). ap p e ∙ two.0) (λ (e : k ≡ n → ⊥). all_at n p two.1 k (omega (arith, e))) (cases_eq k n)

-- The mask of k has every bit but k.
mask_test : ℕ → ℕ → Bool
mask_test k j = eqb (((255 - 2 ^ k) / 2 ^ j) % 2) (cond (eqb j k) 0 1)

mask_bit : (k j : ℕ) → k < 8 → j < 8 → ((255 - 2 ^ k) / 2 ^ j) % 2 ≡ cond (eqb j k) 0 1
unfolding mask_test
mask_bit k j a b = eqb-true _ _ (all_at 8 (mask_test k) (all_at 8 (λ x. all_below 8 (mask_test x)) refl k a) j b)

and_bit : (b k j : ℕ) → (bit_and b (255 - 2 ^ k) / 2 ^ j) % 2 ≡ bit_and ((b / 2 ^ j) % 2) (((255 - 2 ^ k) / 2 ^ j) % 2)
and_bit b k j = ap (λ (x : ℕ). x % 2) (and_shr b (255 - 2 ^ k) j) ∙ and_mod (b / 2 ^ j) ((255 - 2 ^ k) / 2 ^ j) 1

bit_out : (b k : ℕ) → k < 8 → (bit_and b (255 - 2 ^ k) / 2 ^ k) % 2 ≡ 0
bit_out b k h =
    let m : ((255 - 2 ^ k) / 2 ^ k) % 2 ≡ 0 = mask_bit k k h h ∙ ap (λ (x : Bool). cond x 0 1) (eq-eqb k k refl) in
    let z : bit_and ((b / 2 ^ k) % 2) 0 ≤ 0 = and_le_r ((b / 2 ^ k) % 2) 0 in
    and_bit b k k ∙ ap (bit_and ((b / 2 ^ k) % 2)) m ∙ omega arith

bit_kept : (b k j : ℕ) → k < 8 → j < 8 → (j ≡ k → ⊥) → (bit_and b (255 - 2 ^ k) / 2 ^ j) % 2 ≡ (b / 2 ^ j) % 2
bit_kept b k j h i ne =
    let m : ((255 - 2 ^ k) / 2 ^ j) % 2 ≡ 1 = mask_bit k j h i ∙ ap (λ (x : Bool). cond x 0 1) (ne_eqb j k ne) in
    let w : bit_and ((b / 2 ^ j) % 2) 1 ≡ ((b / 2 ^ j) % 2) % 2 = and_mask ((b / 2 ^ j) % 2) 1 in
    and_bit b k j ∙ ap (bit_and ((b / 2 ^ j) % 2)) m ∙ w ∙ omega arith

module _ (bytes : List ℕ) (i : ℕ) (h : i / 8 < length bytes) where
  bit_same : bit (without_bit bytes i) i ≡ false
  bit_same =
      ap (λ (x : ℕ). eqb ((x / 2 ^ (i % 8)) % 2) 1) (get_or-set_same bytes (i / 8) _ 0 h) ∙ ap (λ (x : ℕ). eqb x 1) (bit_out (get_or bytes (i / 8) 0) (i % 8) (omega arith))

  bit_other : (j : ℕ) → (j ≡ i → ⊥) → bit (without_bit bytes i) j ≡ bit bytes j
  bit_other j ne =
      ⊎_elim
      (λ (e : j / 8 ≡ i / 8).
      let nk : j % 8 ≡ i % 8 → ⊥ = λ q. ne (omega (arith, e, q)) in
      ap (λ (x : ℕ). eqb ((get_or (without_bit bytes i) x 0 / 2 ^ (j % 8)) % 2) 1) e
      ∙ ap (λ (x : ℕ). eqb ((x / 2 ^ (j % 8)) % 2) 1) (get_or-set_same bytes (i / 8) _ 0 h)
      ∙ ap (λ (x : ℕ). eqb x 1) (bit_kept (get_or bytes (i / 8) 0) (i % 8) (j % 8) (omega arith) (omega arith) nk)
      ∙ ap (λ (x : ℕ). eqb ((get_or bytes x 0 / 2 ^ (j % 8)) % 2) 1) (sym e))
      (λ (e : j / 8 ≡ i / 8 → ⊥). ap (λ (x : ℕ). eqb ((x / 2 ^ (j % 8)) % 2) 1) (get_or-set_other bytes (i / 8) (j / 8) _ 0 e))
      (cases_eq (j / 8) (i / 8))

and_true : (b : Bool) → (b && true) ≡ b
and_true true = refl
and_true false = refl

and_false : (b : Bool) → (b && false) ≡ false
and_false true = refl
and_false false = refl

module _ (rows columns : ℕ) (bytes : List ℕ) (s t : ℕ) (ht : t < columns) (h : (s * columns + t) / 8 < length bytes) where
  abbrev after : List ℕ
  after = without_bit bytes (s * columns + t)

  off : (x y : ℕ) → paired rows columns after x y ≡ false → paired rows columns bytes x y ≡ false → paired rows columns after x y ≡ removing (paired rows columns bytes) s t x y
  off x y e f = e ∙ sym (ap (λ (z : Bool). z && not (eqb x s && eqb y t)) f)

  taken_at : (x y : ℕ) → paired rows columns after x y ≡ removing (paired rows columns bytes) s t x y
  taken_at x y =
      ⊎_elim
      (λ (p : x < rows).
      ⊎_elim
      (λ (q : y < columns).
      ⊎_elim
      (λ (e : x * columns + y ≡ s * columns + t).
      let xs : x ≡ s = sym (div-mul-add x columns y q) ∙ ap (λ (n : ℕ). n / columns) e ∙ div-mul-add s columns t ht in
      let yt : y ≡ t = sym (mod-mul-add x columns y q) ∙ ap (λ (n : ℕ). n % columns) e ∙ mod-mul-add s columns t ht in
      paired_in rows columns after x y p q
      ∙ ap (bit after) e
      ∙ bit_same bytes (s * columns + t) h
      ∙ sym (ap (λ (z : Bool). paired rows columns bytes x y && not (z && eqb y t)) (eq-eqb x s xs) ∙ ap (λ (z : Bool). paired rows columns bytes x y && not z) (eq-eqb y t yt) ∙ and_false (paired rows columns bytes x y)))
      (λ (e : x * columns + y ≡ s * columns + t → ⊥).
      let differ : (eqb x s && eqb y t) ≡ false = not_both x y s t (λ u v. e (ap (λ (n : ℕ). n * columns + y) u ∙ ap (λ (n : ℕ). s * columns + n) v)) in
      paired_in rows columns after x y p q
      ∙ bit_other bytes (s * columns + t) h (x * columns + y) e
      ∙ sym (paired_in rows columns bytes x y p q)
      ∙ sym (ap (λ (z : Bool). paired rows columns bytes x y && not z) differ ∙ and_true (paired rows columns bytes x y)))
      (cases_eq (x * columns + y) (s * columns + t)))
      (λ (q : columns ≤ y). off x y (out_right rows columns after x y p q) (out_right rows columns bytes x y p q))
      (cases_lt y columns))
      (λ (p : rows ≤ x). off x y (out_left rows columns after x y p) (out_left rows columns bytes x y p))
      (cases_lt x rows)

  pub taken_pairs : paired rows columns after ≡ removing (paired rows columns bytes) s t
  taken_pairs = fun_ext (λ x. fun_ext (λ y. taken_at x y))

-- The byte as the code makes it.
pub taken_made : (bytes : List ℕ) (i : ℕ) → set bytes (i / 8) (bit_and (get_or bytes (i / 8) 0) (255 - (1 * 2 ^ (i % 8)) % 256)) ≡ without_bit bytes i
taken_made bytes i = ap (λ (v : ℕ). set bytes (i / 8) (bit_and (get_or bytes (i / 8) 0) (255 - v))) (one_shl (i % 8) 8 (mod_below i 8 (omega arith)))
