-- The counter keeps the limits of a model, and has the steps of its rule.
use Rattle.std.proofs.Common.{◌≡◌, ℕ, ◌+◌, ◌-◌, ◌<◌, ◌≤◌, ◌⊎◌, Some, sym, refl, ap₂, inl, inr, arith}
use mathlib.Core.Path.{subst₃}
use Rattle.std.proofs.lemmas.Bool.Decides.{nat_tests}
use Rattle.transitions.specs.declared.steps.Step.{Step}
use Rattle.transitions.specs.Lts.{Lawful}
use Rattle.transitions.specs.Counting.{counting, counting_step, Countable, Counts, CountsTo, CounterIs}
use Rattle.transitions.specs.Counting.Counts.{takes, gives}

module _ {n take give : ℕ} (few : n ≤ 4096) (take-fits : take < 64) (give-fits : give < 64) where
  pub counting_lawful : Lawful (counting n take give)
  counting_lawful =
      record {
        states_fit = few;
        width_fits = grind (arith, nat_tests);
        start_in = λ h. h;
        start_empty = λ h. refl;
        ends_in = λ s h. grind (arith, nat_tests);
        step_in = λ s p x h. (grind (arith, nat_tests), grind (arith, nat_tests), grind (arith, nat_tests), grind (arith, nat_tests));
      }

-- what a step is, by its place
by_place : (n take give k p : ℕ) (x : Step) → counting_step n take give k p ≡ Some x
    → ((p ≡ 0) × (k + 1 < n) × (x.action ≡ take) × (x.target ≡ k + 1)) ⊎ ((p ≡ 1) × (0 < k) × (k < n) × (x.action ≡ give) × (x.target ≡ k - 1))
by_place n take give k p x h = grind (arith, nat_tests)

step_is : (x : Step) (a t : ℕ) → x.action ≡ a → x.target ≡ t → record { action = a; target = t } ≡ x
step_is x a t e f = ap₂ (λ (b u : ℕ). record { action = b; target = u }) (sym e) (sym f)

module _ (cap take give : ℕ) where
  there : (k p : ℕ) (x : Step) → counting_step (cap + 1) take give k p ≡ Some x → Counts cap take give k p x
  there k p x h =
      elim (by_place (cap + 1) take give k p x h) [
        | inl w ↦ subst₃ (λ i q y. Counts cap take give i q y) {x = k} refl (sym w.0) (step_is x take (k + 1) w.2 w.3) (takes (let l = w.1 in omega arith))
        | inr w ↦
            let e = w.1 in
            let f = w.2 in
            subst₃ (λ i q y. Counts cap take give i q y) {x = k - 1 + 1} (omega arith) (sym w.0) (step_is x give (k - 1) w.3 w.4) (gives {k = k - 1} (omega arith))
      ]

  back : {k p : ℕ} {x : Step} → Counts cap take give k p x → counting_step (cap + 1) take give k p ≡ Some x
  back (takes h) = grind (arith, nat_tests)
  back (gives {k} h) = let e : k + 1 - 1 ≡ k = omega arith in grind (arith, nat_tests)

  pub counts_to : CountsTo cap take give (counting (cap + 1) take give)
  counts_to =
      record {
        states = refl;
        start = refl;
        width = grind (arith, nat_tests);
        ends = λ k. (λ h. grind (arith, nat_tests), λ h. grind (arith, nat_tests));
        steps = λ k p x. (there k p x, back);
      }

  pub counter_made : Countable cap take give → CounterIs cap take give (counting (cap + 1) take give)
  counter_made yea = record { made = λ _. counts_to; empty = λ nay. absurd (nay yea) }

  pub counter_empty : (Countable cap take give → ⊥) → (a b : ℕ) → CounterIs cap take give (counting 0 a b)
  counter_empty nay a b = record { made = λ yea. absurd (nay yea); empty = λ _. (refl, refl) }
