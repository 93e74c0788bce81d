-- The members of a set made of a mask.
use Rattle.std.proofs.Common.{◌≡◌, ℕ, zero, suc, ◌-◌, ◌/◌, ◌%◌, ◌^◌, Bool, true, false, ◌&&◌, eqb, ltb, sym, ap, ◌∙◌, one-add, arith}
use mathlib.Core.Path.{fun_ext}
use Rattle.std.proofs.lemmas.Bool.Decides.{nat_tests}
use Rattle.std.proofs.lemmas.Nat.{shr-shr}
use Rattle.transitions.specs.Communications.{of_mask, visible_of}

-- the bits above bit 0 stay
upper : (m k : ℕ) → (m - m % 2) / 2 ^ suc k ≡ m / 2 ^ suc k
upper m k =
    let half : (m - m % 2) / 2 ^ 1 ≡ m / 2 ^ 1 = omega arith in
    ap (λ (j : ℕ). (m - m % 2) / 2 ^ j) (sym (one-add k)) ∙ sym (shr-shr (m - m % 2) 1 k) ∙ ap (λ (x : ℕ). x / 2 ^ k) half ∙ shr-shr m 1 k ∙ ap (λ (j : ℕ). m / 2 ^ j) (one-add k)

at : (m a : ℕ) → of_mask (m - m % 2) a ≡ visible_of (of_mask m) a
at m zero = grind (arith, nat_tests)
at m (suc k) = ap (λ (x : ℕ). ltb (suc k) 64 && eqb (x % 2) 1) (upper m k) ∙ ap (λ (b : Bool). b && of_mask m (suc k)) (some k)
  where
    some : (k : ℕ) → true ≡ ltb 0 (suc k)
    some k = grind (arith, nat_tests)

pub made : (m : ℕ) → of_mask (m - m % 2) ≡ visible_of (of_mask m)
made m = fun_ext (at m)

-- a mask with no bit 0 has no silent action
pub quiet : (m : ℕ) → m % 2 ≡ 0 → of_mask m 0 ≡ false
quiet m h = grind (arith, nat_tests)
