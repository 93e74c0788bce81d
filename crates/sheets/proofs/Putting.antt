-- A pair's bit is put into its byte, and no other pair changes.
use Rattle.std.proofs.Common.{◌≡◌, ℕ, suc, ◌+◌, ◌-◌, ◌*◌, ◌/◌, ◌%◌, ◌^◌, ◌<◌, ◌≤◌, max, Bool, true, false, ◌&&◌, ◌||◌, eqb, ◌≢◌, List, length, get_or, sym, refl, ap, ◌∙◌, ⊎_elim, one-mul, pow-suc, arith, get_or-set_other, get_or-set_same}
use mathlib.Core.Path.{fun_ext}
use native.Mathlib.Nat.{div-eq_of_lt, mul-mod_left, max-eq_left, max-eq_right, max-zero}
use lib.Bits.{bit_or, or_shr, or_step}
use Rattle.std.proofs.lemmas.Nat.{pow-add, shl-shr, pow_below, mod-mul-add, div-mul-add, mod_below, div-add-mod'}
use Rattle.std.proofs.lemmas.Bool.{cases_eq, cases_lt, eq-eqb}
use Rattle.sheets.specs.Bits.{bit, paired, with_bit}
use Rattle.sheets.specs.Calls.{adding}
use Rattle.sheets.proofs.Reading.{paired_in, out_left, out_right, not_both}

pow_same : (k : ℕ) → 2 ^ k / 2 ^ k % 2 ≡ 1
pow_same k = ap (λ x. x / 2 ^ k % 2) (sym (one-mul (2 ^ k))) ∙ ap (λ x. x % 2) (shl-shr 1 k)

pow_above : (j d : ℕ) → 2 ^ (suc d + j) / 2 ^ j % 2 ≡ 0
pow_above j d =
    ap (λ x. x / 2 ^ j % 2) (pow-add 2 (suc d) j) ∙ ap (λ x. x % 2) (shl-shr (2 ^ suc d) j) ∙ ap (λ x. x % 2) (pow-suc 2 d) ∙ mul-mod_left (2 ^ d) 2

pow_other : (j k : ℕ) → j ≢ k → 2 ^ k / 2 ^ j % 2 ≡ 0
pow_other j k ne =
    ⊎_elim (λ (h : j < k). let e : k ≡ suc (k - j - 1) + j = omega arith in ap (λ x. 2 ^ x / 2 ^ j % 2) e ∙ pow_above j (k - j - 1))
    (λ (h : k ≤ j). ap (λ x. x % 2) (div-eq_of_lt (pow_below k j (omega arith)))) (cases_lt j k)

max_lt : (a b : ℕ) → a < 2 → b < 2 → max a b < 2
max_lt a b p q =
    ⊎_elim (λ (h : a < b). rw (max-eq_right {n = a} {m = b} (omega arith)) q) (λ (h : b ≤ a). rw (max-eq_left {n = a} {m = b} h) p) (cases_lt a b)

or_bit : (a b : ℕ) → bit_or a b % 2 ≡ max (a % 2) (b % 2)
or_bit a b = ap (λ x. x % 2) (or_step a b) ∙ mod-mul-add _ 2 _ (max_lt _ _ (mod_below a 2 (omega arith)) (mod_below b 2 (omega arith)))

or_at : (b k j : ℕ) → bit_or b (2 ^ k) / 2 ^ j % 2 ≡ max (b / 2 ^ j % 2) (2 ^ k / 2 ^ j % 2)
or_at b k j = ap (λ x. x % 2) (or_shr b (2 ^ k) j) ∙ or_bit (b / 2 ^ j) (2 ^ k / 2 ^ j)

or_same : (b k : ℕ) → eqb (bit_or b (2 ^ k) / 2 ^ k % 2) 1 ≡ true
or_same b k =
    ap (λ x. eqb x 1) (or_at b k k ∙ ap (λ x. max (b / 2 ^ k % 2) x) (pow_same k) ∙ max-eq_right {n = b / 2 ^ k % 2} {m = 1} (omega (arith, mod_below (b / 2 ^ k) 2 (omega arith))))

or_other : (b k j : ℕ) → j ≢ k → eqb (bit_or b (2 ^ k) / 2 ^ j % 2) 1 ≡ eqb (b / 2 ^ j % 2) 1
or_other b k j ne = ap (λ x. eqb x 1) (or_at b k j ∙ ap (λ x. max (b / 2 ^ j % 2) x) (pow_other j k ne) ∙ max-zero (b / 2 ^ j % 2))

put_same : (bs : List ℕ) (i : ℕ) → i / 8 < length bs → bit (with_bit bs i) i ≡ true
put_same bs i h = ap (λ (x : ℕ). eqb ((x / 2 ^ (i % 8)) % 2) 1) (get_or-set_same bs (i / 8) _ 0 h) ∙ or_same _ (i % 8)

put_other : (bs : List ℕ) (i j : ℕ) → i / 8 < length bs → j ≢ i → bit (with_bit bs i) j ≡ bit bs j
put_other bs i j h ne =
    ⊎_elim
    (λ (e : j / 8 ≡ i / 8).
    let apart : j % 8 ≢ i % 8 = λ q. ne (omega (arith, div-add-mod' i 8, div-add-mod' j 8)) in
    ap (λ (k : ℕ). eqb ((get_or (with_bit bs i) k 0 / 2 ^ (j % 8)) % 2) 1) e
    ∙ ap (λ (x : ℕ). eqb ((x / 2 ^ (j % 8)) % 2) 1) (get_or-set_same bs (i / 8) _ 0 h)
    ∙ or_other _ (i % 8) (j % 8) apart
    ∙ ap (λ (k : ℕ). eqb ((get_or bs k 0 / 2 ^ (j % 8)) % 2) 1) (sym e))
    (λ (n : j / 8 ≢ i / 8). ap (λ (x : ℕ). eqb ((x / 2 ^ (j % 8)) % 2) 1) (get_or-set_other bs (i / 8) (j / 8) _ 0 n)) (cases_eq (j / 8) (i / 8))

or_true : (b : Bool) → (b || true) ≡ true
or_true true = refl
or_true false = refl

or_false : (b : Bool) → (b || false) ≡ b
or_false true = refl
or_false false = refl

module _ (rows columns : ℕ) (bytes : List ℕ) (s t : ℕ) (hs : s < rows) (ht : t < columns) (h : (s * columns + t) / 8 < length bytes) where
  abbrev after : List ℕ
  after = with_bit bytes (s * columns + t)

  apart : (x y : ℕ) → paired rows columns after x y ≡ paired rows columns bytes x y → (x ≡ s → y ≡ t → ⊥) → paired rows columns after x y ≡ adding (paired rows columns bytes) s t x y
  apart x y e ne = e ∙ sym (ap (λ (z : Bool). paired rows columns bytes x y || z) (not_both x y s t ne) ∙ or_false (paired rows columns bytes x y))

  put_at : (x y : ℕ) → paired rows columns after x y ≡ adding (paired rows columns bytes) s t x y
  put_at x y =
      ⊎_elim
      (λ (p : x < rows).
      ⊎_elim
      (λ (q : y < columns).
      ⊎_elim
      (λ (e : x * columns + y ≡ s * columns + t).
      let xs : x ≡ s = sym (div-mul-add x columns y q) ∙ ap (λ (n : ℕ). n / columns) e ∙ div-mul-add s columns t ht in
      let yt : y ≡ t = sym (mod-mul-add x columns y q) ∙ ap (λ (n : ℕ). n % columns) e ∙ mod-mul-add s columns t ht in
      paired_in rows columns after x y p q
      ∙ ap (bit after) e
      ∙ put_same bytes (s * columns + t) h
      ∙ sym (ap (λ (z : Bool). paired rows columns bytes x y || (z && eqb y t)) (eq-eqb x s xs) ∙ ap (λ (z : Bool). paired rows columns bytes x y || z) (eq-eqb y t yt) ∙ or_true (paired rows columns bytes x y)))
      (λ (e : x * columns + y ≡ s * columns + t → ⊥).
      apart x y
      (paired_in rows columns after x y p q ∙ put_other bytes (s * columns + t) (x * columns + y) h e ∙ sym (paired_in rows columns bytes x y p q))
      (λ u v. e (ap (λ (n : ℕ). n * columns + y) u ∙ ap (λ (n : ℕ). s * columns + n) v)))
      (cases_eq (x * columns + y) (s * columns + t)))
      (λ (q : columns ≤ y). apart x y (out_right rows columns after x y p q ∙ sym (out_right rows columns bytes x y p q)) (λ u v. omega arith))
      (cases_lt y columns))
      (λ (p : rows ≤ x). apart x y (out_left rows columns after x y p ∙ sym (out_left rows columns bytes x y p)) (λ u v. omega arith))
      (cases_lt x rows)

  pub put_pairs : paired rows columns after ≡ adding (paired rows columns bytes) s t
  put_pairs = fun_ext (λ x. fun_ext (λ y. put_at x y))
